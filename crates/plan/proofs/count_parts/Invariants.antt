-- `plan::count_parts` meets its contract: the parts counted and those left are all.
use mathlib.Core.Path.{◌≡◌}
use Prim.Native.Nat.{◌+◌, ◌-◌, ◌≤◌}
use lib.ListN.{length, drop}
use Rattle.plan.specs.Plan.{parts_from}
use Rattle.plan.proofs.count_parts.Given as goal

abbrev pub invariant-loop-i : goal.invariant-loop-i
invariant-loop-i l = (l.i ≤ length l.list) × (l.count ≤ l.i) × (l.count + length (parts_from (l.i + 1) (drop l.i l.list)) ≡ length (parts_from (l.start + 1) (drop l.start l.list)))

abbrev pub decreases-loop-i : goal.decreases-loop-i
decreases-loop-i l = length l.list - l.i
