-- `plan::part_at` meets its contract: a business number, or the run of session numbers that begins there.
use native.Mathlib.Omega.{arith}
use Rattle.plan.proofs.PlanLaws.{business-part}
use Rattle.plan.proofs.part_at.Goals as goal

pub returns-then-list-i-eq1 : goal.returns-then-list-i-eq1
returns-then-list-i-eq1 c =
    let a = c.args in
    record { i_lt_next = (omega arith, omega arith); i_value = business-part a.list.now a.i (omega arith) c.if-list-i-eq1.true }
