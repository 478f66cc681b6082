-- `plain::line_in` meets its contract: kind by kind.
use native.Mathlib.Omega.{arith}
use Rattle.std.proofs.lemmas.Grind.{common_steps}
use Rattle.sheet.specs.Line.{kind_number}
use Rattle.plain.specs.Arrivals.{kind_at}
use Rattle.plain.proofs.line_in.Goals as goal

pub returns-in-0 : goal.returns-in-0
unfolding kind_at kind_number
returns-in-0 c = grind (arith, common_steps)

pub returns-in-3 : goal.returns-in-3
unfolding kind_at kind_number
returns-in-3 c = grind (arith, common_steps)

pub returns-in-1 : goal.returns-in-1
unfolding kind_at kind_number
returns-in-1 c = grind (arith, common_steps)

pub returns-in_default : goal.returns-in_default
unfolding kind_at kind_number
returns-in_default c = grind (arith, common_steps)
