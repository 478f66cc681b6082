-- The quick tests of a map: no unknown position, no missing one.
use mathlib.Core.Path.{◌≡◌, refl, ap, ◌∙◌}
use mathlib.Core.Bool.{Bool, true, false, not}
use mathlib.Core.List.{List}
use Prim.Native.Nat.{ℕ, ◌<◌}
use borrow.Author.Tests.{ltb-true, ltb-false}
use lib.Bits.{bit_and}
use lib.Dec.{ltb}
use lib.ListN.{take}
use Rattle.wire.specs.Number.{Bytes, number}
use Rattle.tables.specs.Line.{is_required}
use Rattle.tables.specs.Tables.{row_of}
use Rattle.std.specs.Prelude.{None}
use Rattle.fields.specs.Sets.{unknown_to, unknown_at, missing_at, lowest_unknown, lowest_missing}
use Rattle.fields.specs.Words.{Holds, ClearFrom, required_by}
use Rattle.fields.proofs.SetsLaws.{first-none, place_none, missing-end, unknown-clear, unknown-known, missing-optional, missing-required}
use Rattle.fields.proofs.SpanLaws.{span-low}
use Rattle.fields.proofs.WordLaws.{apart, shared}

module _ (messagetype : ℕ) (m : List ℕ) (b : Bytes m) where
  pub quick-unknown : (u : ℕ) → Holds (unknown_to (row_of messagetype)) u → bit_and (number (take 8 m)) u ≡ 0 → ClearFrom 64 m → None ≡ lowest_unknown (row_of messagetype) m
  unfolding lowest_unknown
  quick-unknown u h e f = place_none (unknown_at (row_of messagetype) m) (first-none (unknown_at (row_of messagetype) m) (record { none = λ p l. low p l (ltb p 64) refl }))
    where
      at : (p : ℕ) → p < 64 → (t : Bool) → unknown_to (row_of messagetype) p ≡ t → unknown_at (row_of messagetype) m p ≡ false
      at p l false t = unknown-known (row_of messagetype) m p t
      at p l true t = unknown-clear (row_of messagetype) m p (apart m b p l u e (h.set p l t))

      low : (p : ℕ) → p < 256 → (t : Bool) → ltb p 64 ≡ t → unknown_at (row_of messagetype) m p ≡ false
      low p l true t = at p (ltb-true p 64 t) (unknown_to (row_of messagetype) p) refl
      low p l false t = unknown-clear (row_of messagetype) m p (f.clear p (ltb-false p 64 t) l)

  pub quick-missing : (q : ℕ) → Holds (required_by (row_of messagetype)) q → bit_and (number (take 8 m)) q ≡ q → None ≡ lowest_missing (row_of messagetype) m
  unfolding required_by
  quick-missing q h e = missing-end messagetype m 64 (span-low messagetype) (record { none = λ p l. at p l (is_required (row_of messagetype p)) refl })
    where
      at : (p : ℕ) → p < 64 → (t : Bool) → is_required (row_of messagetype p) ≡ t → missing_at (row_of messagetype) m p ≡ false
      at p l false t = missing-optional (row_of messagetype) m p t
      at p l true t = missing-required (row_of messagetype) m p t ∙ ap not (shared m b p l q e (h.set p l t))
