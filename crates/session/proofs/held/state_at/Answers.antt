-- `session::held::state_at` meets its contract.
use borrow.Author.Tests.{ne_eqb}
use Rattle.session.specs.Held.{state_at}
use Rattle.session.proofs.held.state_at.Goals as goal

pub returns-in-0 : goal.returns-in-0
unfolding state_at
returns-in-0 c = simp c.in-0.is

pub returns-in-1 : goal.returns-in-1
unfolding state_at
returns-in-1 c = simp c.in-1.is

pub returns-in_default : goal.returns-in_default
unfolding state_at
returns-in_default c = simp (ne_eqb _ 0 c.in_default.in_default-own.rest.0.1, ne_eqb _ 1 c.in_default.in_default-own.rest.1)
