-- `plan::seam` meets its contract: two plans that have each a pair, and whether the pairs touch.
use native.Mathlib.Omega.{arith}
use Rattle.std.proofs.lemmas.Grind.{common_steps}
use Rattle.plan.specs.Join.{seam}
use Rattle.plan.proofs.seam.Goals as goal

pub returns-in-len2-up-len2-up : goal.returns-in-len2-up-len2-up
unfolding seam
returns-in-len2-up-len2-up c = grind (arith, common_steps)

pub returns-in_default : goal.returns-in_default
unfolding seam
returns-in_default c = grind (arith, common_steps)

pub returns-in_default-2 : goal.returns-in_default-2
unfolding seam
returns-in_default-2 c = grind (arith, common_steps)

pub returns-in_default-3 : goal.returns-in_default-3
unfolding seam
returns-in_default-3 c = grind (arith, common_steps)
