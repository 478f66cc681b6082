-- `session::state::first_of` meets its contract: row by row.
use mathlib.Core.Path.{sym, ap}
use mathlib.Core.Logic.{inl, inr}
use Rattle.session.specs.State.{first_of}
use Rattle.session.proofs.state.first_of.Goals as goal

pub returns-in-Nothing : goal.returns-in-Nothing
unfolding first_of
returns-in-Nothing c = ap first_of (sym c.in-Nothing.is)

pub returns-in-Business : goal.returns-in-Business
unfolding first_of
returns-in-Business c =
    elim c.in-Business.is [
      | inl e ↦ ap first_of (sym e)
      | inr e ↦ ap first_of (sym e)
    ]

pub returns-in-Business-2 : goal.returns-in-Business-2
unfolding first_of
returns-in-Business-2 c =
    elim c.in-Business.is [
      | inl e ↦ ap first_of (sym e)
      | inr e ↦ ap first_of (sym e)
    ]

pub returns-in-Filled : goal.returns-in-Filled
unfolding first_of
returns-in-Filled c = ap first_of (sym c.in-Filled.is)

pub returns-in-Reset : goal.returns-in-Reset
unfolding first_of
returns-in-Reset c = ap first_of (sym c.in-Reset.is)
