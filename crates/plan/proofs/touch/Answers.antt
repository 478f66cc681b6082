-- `plan::touch` meets its contract: a below b, b the other's first, and that below c.
use native.Mathlib.Omega.{arith}
use Rattle.std.proofs.lemmas.Grind.{common_steps}
use Rattle.plan.specs.Join.{touch}
use Rattle.plan.proofs.touch.Goals as goal

pub returns-then-b-next : goal.returns-then-b-next
unfolding touch
returns-then-b-next c = grind (arith, common_steps)

pub returns-else-b-next : goal.returns-else-b-next
unfolding touch
returns-else-b-next c = grind (arith, common_steps)
