-- `fields::walk::end_of` meets its contract: the map ends, or its last three words are zeros.
use native.Mathlib.Nat.{le_refl}
use native.Mathlib.Omega.{arith}
use lib.ListN.{length}
use Rattle.fields.proofs.PositionLaws.{present-beyond}
use Rattle.fields.proofs.walk.end_of.Goals as goal

pub returns-then-map-lt-MAP_BYTES : goal.returns-then-map-lt-MAP_BYTES
returns-then-map-lt-MAP_BYTES c =
    let m = c.args.map.now in
    record { within = omega arith; inside = omega arith; rest = record { clear = λ k l u. present-beyond m (length m) (le_refl (length m)) k l } }

pub returns-then-is_low : goal.returns-then-is_low
returns-then-is_low c = record { within = omega arith; inside = omega arith; rest = c.is_low.ensures c.if-is_low.true }

pub returns : goal.returns
returns c = record { within = omega arith; inside = omega arith; rest = record { clear = λ k l u. absurd (omega arith) } }
