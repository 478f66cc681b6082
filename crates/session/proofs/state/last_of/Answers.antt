-- `session::state::last_of` meets its contract: row by row.
use mathlib.Core.Path.{sym, ap}
use mathlib.Core.Logic.{inl, inr}
use Rattle.session.specs.State.{last_of}
use Rattle.session.proofs.state.last_of.Goals as goal

pub returns-in-Nothing : goal.returns-in-Nothing
unfolding last_of
returns-in-Nothing c = ap last_of (sym c.in-Nothing.is)

pub returns-in-Business : goal.returns-in-Business
unfolding last_of
returns-in-Business c =
    elim c.in-Business.is [
      | inl e ↦ ap last_of (sym e)
      | inr e ↦ ap last_of (sym e)
    ]

pub returns-in-Business-2 : goal.returns-in-Business-2
unfolding last_of
returns-in-Business-2 c =
    elim c.in-Business.is [
      | inl e ↦ ap last_of (sym e)
      | inr e ↦ ap last_of (sym e)
    ]

pub returns-in-Filled : goal.returns-in-Filled
unfolding last_of
returns-in-Filled c = ap last_of (sym c.in-Filled.is)

pub returns-in-Reset : goal.returns-in-Reset
unfolding last_of
returns-in-Reset c = ap last_of (sym c.in-Reset.is)
