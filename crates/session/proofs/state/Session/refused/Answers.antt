-- `session::state::Session::refused` meets its contract: the refusal decides.
use mathlib.Core.Path.{sym, ◌∙◌}
use mathlib.Core.Logic.{inl, inr}
use Rattle.message.specs.Refusal.{number_of}
use Rattle.session.specs.Day.{refused}
use Rattle.session.proofs.CaseLaws.{refused-stops}
use Rattle.session.proofs.state.Session.refused.Goals as goal

pub returns-in-Short : goal.returns-in-Short
unfolding refused number_of
returns-in-Short c =
    elim c.in-Short.is [
      | inl e ↦ simp (c.unmoved.ensures, e.1)
      | inr e ↦ simp (c.unmoved.ensures, e.1)
    ]

pub returns-in_default : goal.returns-in_default
returns-in_default c = c.leave.ensures ∙ sym (refused-stops _ _ c.in_default.not-Short c.in_default.not-BadSum)
