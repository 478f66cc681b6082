-- `spelt::spell` meets its contract: the invariant is that the digits of what is left stand before those laid.
use mathlib.Core.Path.{◌≡◌}
use Prim.Native.Nat.{◌≤◌}
use mathlib.Core.List.{◌++◌}
use lib.ListN.{length, drop}
use Rattle.spelt.specs.Spelt.{digits}
use Rattle.spelt.proofs.spell.Given as goal

abbrev pub invariant-loop-i : goal.invariant-loop-i
invariant-loop-i l = (l.i ≤ 20) × (length l.text ≡ 20) × (digits l.i l.v ++ drop l.i l.text ≡ digits 20 l.n)

abbrev pub decreases-loop-i : goal.decreases-loop-i
decreases-loop-i l = l.i
