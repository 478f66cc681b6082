-- `spelt::put_fraction` meets its contract: the invariant is that the digits of what is left follow those laid.
use mathlib.Core.Path.{◌≡◌}
use Prim.Native.Nat.{◌+◌, ◌-◌, ◌^◌, ◌<◌, ◌≤◌}
use mathlib.Core.List.{◌++◌}
use lib.ListN.{length, take}
use Rattle.spelt.specs.Spelt.{fraction}
use Rattle.spelt.proofs.put_fraction.Given as goal

abbrev pub invariant-loop-v : goal.invariant-loop-v
invariant-loop-v l = (l.at ≤ l.i) × (l.i ≤ l.at + 8) × (length l.d ≡ length l.initial.d) × (l.p ≡ 10 ^ (l.at + 8 - l.i)) × (l.v < l.p) × (take l.i l.d ++ fraction (l.at + 8 - l.i) l.v ≡ take l.at l.initial.d ++ fraction 8 l.n)

abbrev pub decreases-loop-v : goal.decreases-loop-v
decreases-loop-v l = l.at + 8 - l.i
