-- `plan::write_parts` meets its contract: the parts before index i are written, and what lies behind them is as it was.
use Prim.Native.Nat.{◌+◌, ◌-◌, ◌≤◌}
use lib.ListN.{length, drop}
use Rattle.plan.specs.Plan.{parts_from}
use Rattle.plan.proofs.PlanLaws.{Written}
use Rattle.plan.proofs.write_parts.Given as goal

abbrev pub invariant-loop-i : goal.invariant-loop-i
invariant-loop-i l = (l.i ≤ length l.list) × Written (parts_from (l.start + 1) (drop l.start l.list)) (parts_from (l.i + 1) (drop l.i l.list)) l.initial.d l.d l.at

abbrev pub decreases-loop-i : goal.decreases-loop-i
decreases-loop-i l = length l.list - l.i
