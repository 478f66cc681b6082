-- `session::state::Session::live` meets its contract: rules 3 to 9, by the message's content.
use mathlib.Core.Path.{sym, ◌∙◌}
use mathlib.Core.Logic.{inl, inr}
use Rattle.session.specs.Rules.{live}
use Rattle.session.proofs.CaseLaws.{live-other}
use Rattle.session.proofs.state.Session.live.Goals as goal

pub returns-in-Reset : goal.returns-in-Reset
unfolding live
returns-in-Reset c = simp (c.reset.ensures, c.in-Reset.is)

pub returns-in-Logout : goal.returns-in-Logout
unfolding live
returns-in-Logout c = simp (c.logout.ensures, c.in-Logout.is)

pub returns-in-Logon : goal.returns-in-Logon
unfolding live
returns-in-Logon c =
    elim c.in-Logon.is [
      | inl e ↦ simp (c.stop.ensures, e.1)
      | inr e ↦ simp (c.stop.ensures, e)
    ]

pub returns-in_default : goal.returns-in_default
returns-in_default c =
    let d = c.in_default in
    c.numbered.ensures ∙ sym (live-other _ _ _ _ d.not-Reset d.not-Logout d.not-Logon d.not-Lookup)
