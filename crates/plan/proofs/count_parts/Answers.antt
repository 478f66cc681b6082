use mathlib.Core.Path.{ap}
use native.Mathlib.Omega.{arith}
use lib.ListN.{length}
use Rattle.plan.proofs.PlanLaws.{no-part-left}
use Rattle.plan.proofs.count_parts.Goals as goal

pub returns : goal.returns
returns c =
    let a = c.args in
    let e = ap length (no-part-left a.list.now c.loop-i.i c.loop-i-test.false) in
    (omega (arith, c.loop-i.invariant.2), omega arith)
