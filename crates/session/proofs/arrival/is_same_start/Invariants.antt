-- `session::arrival::is_same_start` meets its contract: the bytes before place i are the same.
use mathlib.Core.Path.{◌≡◌}
use Prim.Native.Nat.{◌≤◌}
use lib.ListN.{take}
use Rattle.session.proofs.arrival.is_same_start.Given as goal

abbrev pub invariant-loop-i : goal.invariant-loop-i
invariant-loop-i l = (8 ≤ l.i) × (l.i ≤ 12) × (take l.i l.a ≡ take l.i l.b)
