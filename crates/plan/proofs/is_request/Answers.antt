-- `plan::is_request` meets its contract: a test for each way in which a request is refused.
use native.Mathlib.Omega.{arith}
use Rattle.std.proofs.lemmas.Grind.{common_steps}
use Rattle.plan.specs.Plan.{is_request}
use Rattle.plan.proofs.is_request.Goals as goal

pub returns-then-e-eq0 : goal.returns-then-e-eq0
unfolding is_request
returns-then-e-eq0 c = grind (arith, common_steps)

pub returns-else-e-eq0 : goal.returns-else-e-eq0
unfolding is_request
returns-else-e-eq0 c = grind (arith, common_steps)

pub returns-else-s-list : goal.returns-else-s-list
unfolding is_request
returns-else-s-list c = grind (arith, common_steps)
