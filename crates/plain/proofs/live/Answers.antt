-- `plain::live` meets its contract: rule by rule.
use native.Mathlib.Omega.{arith}
use Rattle.std.proofs.lemmas.Grind.{common_steps}
use Rattle.plain.specs.Plain.{reset, lower, gap_fill, numbered, live}
use Rattle.plain.proofs.live.Goals as goal

pub returns-in-Logon : goal.returns-in-Logon
unfolding live reset lower gap_fill numbered
returns-in-Logon c = grind (arith, common_steps)

pub returns-in-Reset : goal.returns-in-Reset
unfolding live reset lower gap_fill numbered
returns-in-Reset c = grind (arith, common_steps)

pub returns-in-Reset-2 : goal.returns-in-Reset-2
unfolding live reset lower gap_fill numbered
returns-in-Reset-2 c = grind (arith, common_steps)

pub returns-in-Reset-3 : goal.returns-in-Reset-3
unfolding live reset lower gap_fill numbered
returns-in-Reset-3 c = grind (arith, common_steps)

pub returns-in_default : goal.returns-in_default
unfolding live reset lower gap_fill numbered
returns-in_default c = grind (arith, common_steps)

pub returns-in_default-2 : goal.returns-in_default-2
unfolding live reset lower gap_fill numbered
returns-in_default-2 c = grind (arith, common_steps)

pub returns-in_default-3 : goal.returns-in_default-3
unfolding live reset lower gap_fill numbered
returns-in_default-3 c = grind (arith, common_steps)

pub returns-in_default-4 : goal.returns-in_default-4
unfolding live reset lower gap_fill numbered
returns-in_default-4 c = grind (arith, common_steps)

pub returns-in-Business : goal.returns-in-Business
unfolding live reset lower gap_fill numbered
returns-in-Business c = grind (arith, common_steps)

pub returns-in-GapFill : goal.returns-in-GapFill
unfolding live reset lower gap_fill numbered
returns-in-GapFill c = grind (arith, common_steps)

pub returns-in-GapFill-2 : goal.returns-in-GapFill-2
unfolding live reset lower gap_fill numbered
returns-in-GapFill-2 c = grind (arith, common_steps)
