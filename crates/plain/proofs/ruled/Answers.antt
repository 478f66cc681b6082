-- `plain::ruled` meets its contract: state by state.
use native.Mathlib.Omega.{arith}
use Rattle.std.proofs.lemmas.Grind.{common_steps}
use Rattle.plain.specs.Plain.{logon, waiting, ruled}
use Rattle.plain.proofs.ruled.Goals as goal

pub returns-in-Down : goal.returns-in-Down
unfolding ruled waiting logon
returns-in-Down c = grind (arith, common_steps)

pub returns-in-Logon : goal.returns-in-Logon
unfolding ruled waiting logon
returns-in-Logon c = grind (arith, common_steps)

pub returns-in-Logon-2 : goal.returns-in-Logon-2
unfolding ruled waiting logon
returns-in-Logon-2 c = grind (arith, common_steps)

pub returns-in-Logon-3 : goal.returns-in-Logon-3
unfolding ruled waiting logon
returns-in-Logon-3 c = grind (arith, common_steps)

pub returns-in-Logon-4 : goal.returns-in-Logon-4
unfolding ruled waiting logon
returns-in-Logon-4 c = grind (arith, common_steps)

pub returns-in_default : goal.returns-in_default
unfolding ruled waiting logon
returns-in_default c = grind (arith, common_steps)

pub returns-in-Live : goal.returns-in-Live
unfolding ruled waiting logon
returns-in-Live c = grind (arith, common_steps)
