-- `session::state::Session::waiting` meets its contract: rule 2, by the message's content.
use mathlib.Core.Path.{sym, ◌∙◌}
use mathlib.Core.Logic.{inl, inr}
use Rattle.session.specs.Rules.{waiting}
use Rattle.session.proofs.CaseLaws.{waiting-other}
use Rattle.session.proofs.state.Session.waiting.Goals as goal

pub returns-in-Logon : goal.returns-in-Logon
unfolding waiting
returns-in-Logon c = simp (c.logon.ensures, c.in-Logon.is)

pub returns-in-Logout : goal.returns-in-Logout
unfolding waiting
returns-in-Logout c =
    elim c.in-Logout.is [
      | inl e ↦ simp (c.turned_away.ensures, e)
      | inr e ↦ simp (c.turned_away.ensures, e)
    ]

pub returns-in_default : goal.returns-in_default
returns-in_default c = c.stop.ensures ∙ sym (waiting-other _ _ _ c.in_default.not-Logon c.in_default.not-Logout c.in_default.not-Reject)
