-- `plan::last_number` meets its contract: the smaller of End and the length.
use native.Mathlib.Omega.{arith}
use Rattle.std.proofs.lemmas.Grind.{common_steps}
use Rattle.plan.specs.Plan.{last_number}
use Rattle.plan.proofs.last_number.Goals as goal

pub returns-then-e-eq0 : goal.returns-then-e-eq0
unfolding last_number
returns-then-e-eq0 c = grind (arith, common_steps)

pub returns-else-e-eq0 : goal.returns-else-e-eq0
unfolding last_number
returns-else-e-eq0 c = grind (arith, common_steps)
