-- `fields::sets::search_unknown` meets its contract: no position before place j of byte i is set and unknown.
use mathlib.Core.Path.{◌≡◌}
use mathlib.Core.Bool.{true}
use Prim.Native.Nat.{◌+◌, ◌-◌, ◌*◌, ◌≤◌, ◌<◌}
use lib.ListN.{get_or}
use Rattle.wire.specs.Map.{bit_at}
use Rattle.tables.specs.Tables.{row_of}
use Rattle.fields.specs.Sets.{unknown_at}
use Rattle.fields.proofs.SetsLaws.{NoneBelow}
use Rattle.fields.proofs.sets.search_unknown.Given as goal

abbrev pub invariant-loop-j : goal.invariant-loop-j
invariant-loop-j l =
    (l.j ≤ 8) × (l.j < 8 → bit_at (get_or l.map l.i 0) l.j ≡ true) × NoneBelow (unknown_at (row_of l.messagetype) l.map) (l.i * 8 + l.j)

abbrev pub invariant-loop-i : goal.invariant-loop-i
invariant-loop-i l = NoneBelow (unknown_at (row_of l.messagetype) l.map) (l.i * 8)

abbrev pub decreases-loop-j : goal.decreases-loop-j
decreases-loop-j l = 8 - l.j
