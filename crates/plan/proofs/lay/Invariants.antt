-- `plan::lay` meets its contract: the first i numbers are laid, and what lies behind them is as it was.
use mathlib.Core.Path.{◌≡◌}
use Prim.Native.Nat.{◌≤◌}
use mathlib.Core.List.{◌++◌}
use lib.ListN.{length, take, drop}
use Rattle.plan.proofs.lay.Given as goal

abbrev pub invariant-loop-i : goal.invariant-loop-i
invariant-loop-i l = (l.i ≤ length l.ns) × (length l.d ≡ length l.initial.d) × (l.d ≡ take l.i l.ns ++ drop l.i l.initial.d)
