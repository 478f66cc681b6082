-- The lowest position that passes a test, found by a loop that has seen that no lower one does; the tests of the known and the required set,
-- as the loops over a map meet them; and a field's position.
use mathlib.Core.Path.{◌≡◌, refl, sym, ap, ◌∙◌}
use mathlib.Core.Bool.{Bool, true, false, cond, not}
use mathlib.Core.List.{List}
use Prim.Native.Nat.{ℕ, ◌+◌, ◌*◌, ◌≤◌, ◌<◌}
use native.Mathlib.Omega.{arith}
use borrow.Author.Tests.{lt-ltb, ltb-true, ltb-false, eqb-true, eqb-false}
use denote.Enum.Bare.{sameb, true_same, false_same}
use lib.Dec.{eqb, ltb}
use lib.ListN.{length, get_or}
use Rattle.tables.specs.contracts.dictionary.Field.{the_type}
use Rattle.tables.specs.Dictionary.{row_number}
use Rattle.tables.proofs.Agree.{one_number}
use Rattle.tables.specs.declared.dictionary.Field.{Field}
use Rattle.tables.specs.declared.table.Row.{Row}
use Rattle.tables.specs.Line.{is_required}
use Rattle.tables.specs.Tables.{row_of, span_of}
use Rattle.wire.specs.Map.{bit_at, present, next_bit}
use Rattle.wire.specs.Search.{first_from}
use Rattle.wire.proofs.MapLaws.{present-at}
use Rattle.wire.proofs.SearchLaws.{first-is, first_found}
use Rattle.std.specs.Prelude.{Some, None}
use Rattle.fields.specs.Sets.{
  unknown_to,
  unknown_at,
  missing_at,
  place_of,
  lowest,
  lowest_unknown,
  lowest_missing,
  is_row_of,
  stands_at,
  position_of,
}
use Rattle.fields.proofs.PositionLaws.{present-between, present-beyond}
use Rattle.fields.proofs.SpanLaws.{span-within, beyond-none, beyond-required}

-- no position below n passes
pub record NoneBelow (test : ℕ → Bool) (n : ℕ) : Type 0 where
  pub none : (k : ℕ) → k < n → test k ≡ false

module _ (test : ℕ → Bool) where
  pub none-below-zero : NoneBelow test 0
  none-below-zero = record { none = λ k h. absurd (omega arith) }

  -- nor one from a on
  pub none-up-to : (a b : ℕ) → NoneBelow test a → ((k : ℕ) → a ≤ k → k < b → test k ≡ false) → NoneBelow test b
  none-up-to a b h g = record { none = λ k u. go k u (ltb k a) refl }
    where
      go : (k : ℕ) → k < b → (t : Bool) → ltb k a ≡ t → test k ≡ false
      go k u true e = h.none k (ltb-true k a e)
      go k u false e = g k (ltb-false k a e) u

  pub none-below-next : (a : ℕ) → NoneBelow test a → test a ≡ false → NoneBelow test (a + 1)
  none-below-next a h e =
      none-up-to a (a + 1) h (λ k l u. let z : k ≡ a = omega arith in ap test z ∙ e)

  -- of a map's 256 positions the first that passes; and 256 where none does
  pub first-at : (p : ℕ) → p < 256 → NoneBelow test p → test p ≡ true → first_from test 256 0 ≡ p
  first-at p l h e =
      first-is test 256 0 p (omega arith) (omega arith) (λ k z u. h.none k u) (λ u. e)

  pub first-none : NoneBelow test 256 → first_from test 256 0 ≡ 256
  first-none h =
      first-is test 256 0 256 (omega arith) (omega arith) (λ k z u. h.none k u) (λ u. absurd (omega arith))

  pub place_at : (p : ℕ) → p < 256 → first_from test 256 0 ≡ p → Some p ≡ lowest test
  unfolding lowest place_of
  place_at p l f = rw (f, lt-ltb p 256 l)

  pub place_none : first_from test 256 0 ≡ 256 → None ≡ lowest test
  unfolding lowest place_of
  place_none f = rw f

-- a position that is clear, or known, is not unknown
module _ (rows : ℕ → Row) (m : List ℕ) where
  pub unknown-clear : (p : ℕ) → present m p ≡ false → unknown_at rows m p ≡ false
  unfolding unknown_at
  unknown-clear p h = rw h

  pub unknown-known : (p : ℕ) → unknown_to rows p ≡ false → unknown_at rows m p ≡ false
  unfolding unknown_at
  unknown-known p h = rw h (go (present m p))
    where
      go : (b : Bool) → cond b false false ≡ false
      go true = refl
      go false = refl

  unknown-set : (p : ℕ) → present m p ≡ true → unknown_to rows p ≡ true → unknown_at rows m p ≡ true
  unfolding unknown_at
  unknown-set p h e = rw (h, e)

  -- a loop over the bytes of a map, and in it one over the set places of a byte
  pub unknown-enter : (i r : ℕ) → r ≡ next_bit (get_or m i 0) 0 → NoneBelow (unknown_at rows m) (i * 8) → NoneBelow (unknown_at rows m) (i * 8 + r)
  unknown-enter i r x h =
      none-up-to (unknown_at rows m) (i * 8) (i * 8 + r) h (λ k l u. unknown-clear k (present-between m i 0 r x k (omega arith) u))

  pub unknown-pass : (i j r : ℕ) → r ≡ next_bit (get_or m i 0) (j + 1) → unknown_to rows (i * 8 + j) ≡ false
      → NoneBelow (unknown_at rows m) (i * 8 + j) → NoneBelow (unknown_at rows m) (i * 8 + r)
  unknown-pass i j r x e h =
      none-up-to (unknown_at rows m) (i * 8 + j + 1) (i * 8 + r)
      (none-below-next (unknown_at rows m) (i * 8 + j) h (unknown-known (i * 8 + j) e))
      (λ k l u. unknown-clear k (present-between m i (j + 1) r x k (omega arith) u))

  pub unknown-hit : (i j : ℕ) → i < 32 → j < 8 → bit_at (get_or m i 0) j ≡ true → unknown_to rows (i * 8 + j) ≡ true
      → NoneBelow (unknown_at rows m) (i * 8 + j) → Some (i * 8 + j) ≡ lowest_unknown rows m
  unfolding lowest_unknown
  unknown-hit i j u l b e h =
      let v : i * 8 + j < 256 = omega arith in
      place_at (unknown_at rows m) (i * 8 + j) v (first-at (unknown_at rows m) (i * 8 + j) v h (unknown-set (i * 8 + j) (present-at m i j l ∙ b) e))

  pub unknown-leave : (i j : ℕ) → j ≡ 8 → NoneBelow (unknown_at rows m) (i * 8 + j) → NoneBelow (unknown_at rows m) ((i + 1) * 8)
  unknown-leave i j e h = let z : (i + 1) * 8 ≡ i * 8 + j = omega arith in rw z h

  -- all 32 bytes are passed, or the map has ended
  pub unknown-end : (i : ℕ) → (i < 32 → length m ≤ i) → NoneBelow (unknown_at rows m) (i * 8) → None ≡ lowest_unknown rows m
  unfolding lowest_unknown
  unknown-end i e h =
      place_none (unknown_at rows m)
      (first-none (unknown_at rows m) (none-up-to (unknown_at rows m) (i * 8) 256 h (λ k l v. unknown-clear k (present-beyond m i (e (omega arith)) k l))))

-- a loop over the positions of a type's span, none at or past which passes
module _ (test : ℕ → Bool) (messagetype : ℕ) (beyond : (k : ℕ) → span_of messagetype ≤ k → test k ≡ false) where
  pub span-hit : (p : ℕ) → p < span_of messagetype → test p ≡ true → NoneBelow test p → first_from test 256 0 ≡ p
  span-hit p l e h = first-at test p (omega (arith, span-within messagetype)) h e

  pub span-end : (p : ℕ) → span_of messagetype ≤ p → NoneBelow test p → first_from test 256 0 ≡ 256
  span-end p l h = first-none test (none-up-to test p 256 h (λ k u v. beyond k (omega arith)))

-- the required positions
module _ (rows : ℕ → Row) (m : List ℕ) where
  pub missing-optional : (p : ℕ) → is_required (rows p) ≡ false → missing_at rows m p ≡ false
  unfolding missing_at
  missing-optional p h = rw h

  pub missing-required : (p : ℕ) → is_required (rows p) ≡ true → missing_at rows m p ≡ not (present m p)
  unfolding missing_at
  missing-required p h = rw h

-- of a message type
module _ (messagetype : ℕ) (m : List ℕ) where
  missing-beyond : (p : ℕ) → span_of messagetype ≤ p → missing_at (row_of messagetype) m p ≡ false
  missing-beyond p h = missing-optional (row_of messagetype) m p (beyond-required messagetype p h)

  pub missing-hit : (p : ℕ) → p < span_of messagetype → missing_at (row_of messagetype) m p ≡ true → NoneBelow (missing_at (row_of messagetype) m) p → Some p ≡ lowest_missing (row_of messagetype) m
  unfolding lowest_missing
  missing-hit p l e h =
      place_at (missing_at (row_of messagetype) m) p (omega (arith, span-within messagetype)) (span-hit (missing_at (row_of messagetype) m) messagetype missing-beyond p l e h)

  pub missing-end : (p : ℕ) → span_of messagetype ≤ p → NoneBelow (missing_at (row_of messagetype) m) p → None ≡ lowest_missing (row_of messagetype) m
  unfolding lowest_missing
  missing-end p l h = place_none (missing_at (row_of messagetype) m) (span-end (missing_at (row_of messagetype) m) messagetype missing-beyond p l h)

-- a field's position
module _ (messagetype : ℕ) (f : Field) where
  pub stands-beyond : (p : ℕ) → span_of messagetype ≤ p → stands_at (row_of messagetype) f p ≡ false
  unfolding stands_at is_row_of
  stands-beyond p h = beyond-none (is_row_of f) refl refl messagetype p h

  pub position-hit : (p : ℕ) → p < span_of messagetype → stands_at (row_of messagetype) f p ≡ true → NoneBelow (stands_at (row_of messagetype) f) p → p ≡ position_of (row_of messagetype) f
  unfolding position_of
  position-hit p l e h = sym (span-hit (stands_at (row_of messagetype) f) messagetype stands-beyond p l e h)

  pub position-end : (p : ℕ) → span_of messagetype ≤ p → NoneBelow (stands_at (row_of messagetype) f) p → 256 ≡ position_of (row_of messagetype) f
  unfolding position_of
  position-end p l h = sym (span-end (stands_at (row_of messagetype) f) messagetype stands-beyond p l h)

  -- where the field has a position it stands there
  pub position-stands : position_of (row_of messagetype) f < 256 → stands_at (row_of messagetype) f (position_of (row_of messagetype) f) ≡ true
  unfolding position_of
  position-stands l = first_found (stands_at (row_of messagetype) f) 256 0 (omega arith)

-- two fields are the same where their numbers are
pub same_number : (f g : Field) → sameb the_type f g ≡ eqb (row_number f) (row_number g)
same_number f g = go (eqb (row_number f) (row_number g)) refl
  where
    go : (b : Bool) → eqb (row_number f) (row_number g) ≡ b → sameb the_type f g ≡ b
    go true e = true_same the_type f g (one_number f g (eqb-true (row_number f) (row_number g) e))
    go false e = false_same the_type tt f g (λ q. eqb-false (row_number f) (row_number g) e (ap row_number q))
