-- `session::state::sort_number` meets its contract: row by row.
use mathlib.Core.Path.{sym, ap}
use Rattle.session.specs.State.{sort_number}
use Rattle.session.proofs.state.sort_number.Goals as goal

pub returns-in-Nothing : goal.returns-in-Nothing
unfolding sort_number
returns-in-Nothing c = ap sort_number (sym c.in-Nothing.is)

pub returns-in-Business : goal.returns-in-Business
unfolding sort_number
returns-in-Business c = ap sort_number (sym c.in-Business.is)

pub returns-in-Session : goal.returns-in-Session
unfolding sort_number
returns-in-Session c = ap sort_number (sym c.in-Session.is)

pub returns-in-Filled : goal.returns-in-Filled
unfolding sort_number
returns-in-Filled c = ap sort_number (sym c.in-Filled.is)

pub returns-in-Reset : goal.returns-in-Reset
unfolding sort_number
returns-in-Reset c = ap sort_number (sym c.in-Reset.is)
