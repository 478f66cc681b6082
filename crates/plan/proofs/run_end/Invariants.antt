-- `plan::run_end` meets its contract: the gap fill is open up to the index reached.
use mathlib.Core.Path.{◌≡◌}
use Prim.Native.Nat.{◌+◌}
use lib.ListN.{drop}
use Rattle.plan.specs.Plan.{parts_from}
use Rattle.plan.proofs.PlanLaws.{opened}
use Rattle.plan.proofs.run_end.Given as goal

abbrev pub invariant-loop-end : goal.invariant-loop-end
invariant-loop-end l = parts_from (l.i + 1) (drop l.i l.list) ≡ opened (l.i + 1) (l.end + 1) (parts_from (l.end + 1) (drop l.end l.list))
