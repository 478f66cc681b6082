-- `session::held::least_own` meets its contract.
use borrow.Author.Tests.{eq-eqb, ne_eqb}
use Rattle.session.specs.Held.{least_own}
use Rattle.session.proofs.held.least_own.Goals as goal

pub returns-then-state-eq-DOWN : goal.returns-then-state-eq-DOWN
unfolding least_own
returns-then-state-eq-DOWN c = simp (eq-eqb _ 0 c.if-state-eq-DOWN.true)

pub returns-else-state-eq-DOWN : goal.returns-else-state-eq-DOWN
unfolding least_own
returns-else-state-eq-DOWN c = simp (ne_eqb _ 0 c.if-state-eq-DOWN.false)
