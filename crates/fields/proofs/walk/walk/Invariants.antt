-- `fields::walk::walk` meets its contract: what the walk from place j of byte i on gives for `rest`, with what is summed so far,
-- is what the whole walk gives for the body. The sum and what is left never exceed the body, so the sum stays in range.
use mathlib.Core.Path.{◌≡◌}
use mathlib.Core.Bool.{true}
use Prim.Native.Nat.{◌+◌, ◌-◌, ◌*◌, ◌≤◌, ◌<◌}
use lib.ListN.{length, get_or}
use Rattle.wire.specs.Map.{bit_at}
use Rattle.tables.specs.Tables.{row_of}
use Rattle.fields.specs.Walk.{walk_of}
use Rattle.fields.proofs.PositionLaws.{later}
use Rattle.fields.proofs.WalkLaws.{walk_from}
use Rattle.fields.proofs.walk.walk.Given as goal

abbrev pub invariant-loop-j : goal.invariant-loop-j
invariant-loop-j l =
    (l.j ≤ 8) × (l.j < 8 → bit_at (get_or l.map l.i 0) l.j ≡ true) × (l.sum + length l.rest ≤ length l.body)
    × (walk_from (row_of l.messagetype) (later l.map 256 (l.i * 8 + l.j)) l.sum l.rest ≡ walk_of (row_of l.messagetype) l.map l.body)

abbrev pub invariant-loop-i : goal.invariant-loop-i
invariant-loop-i l =
    (l.sum + length l.rest ≤ length l.body)
    × (walk_from (row_of l.messagetype) (later l.map 256 (l.i * 8)) l.sum l.rest ≡ walk_of (row_of l.messagetype) l.map l.body)

abbrev pub decreases-loop-j : goal.decreases-loop-j
decreases-loop-j l = 8 - l.j
