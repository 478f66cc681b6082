-- The longest body of any rows: a map with every known position, and each field full. Every byte of a number and every character is a 'Y',
-- which Gap Fill takes too. It passes every check, and is as long as the rows allow.
use mathlib.Core.Path.{◌≡◌, refl, sym, ap, ◌∙◌}
use mathlib.Core.Bool.{Bool, true, false, cond, not}
use mathlib.Core.List.{List, [], ◌++◌}
use mathlib.Core.Logic.{⊎_elim, ◌≢◌}
use Prim.Native.Nat.{ℕ, zero, suc, ◌+◌, ◌-◌, ◌/◌, ◌%◌, ◌≤◌, ◌<◌}
use native.Mathlib.Nat.{eq-or-lt_of_le, zero-add, add-zero}
use native.Mathlib.Omega.{arith}
use lib.ListN.{length, replicate, length-replicate}
use lib.Seq.{drop_at}
use Rattle.wire.specs.declared.text.Allowed.{Allowed}
use Rattle.wire.specs.declared.text.Allowed.TheVariants.{Ascii, Accented}
use Rattle.tables.specs.declared.dictionary.Sort.{Sort}
use Rattle.tables.specs.declared.dictionary.Sort.TheVariants.{Number, Decimal, Byte, YesNo, Fixed, Variable}
use Rattle.tables.specs.declared.table.Row.{Row}
use Rattle.tables.specs.declared.table.Row.TheVariants.{Required, Optional, UnknownPosition, UnknownType}
use Rattle.tables.specs.Dictionary.{yes, by_sort, sort_of, width_of}
use Rattle.tables.specs.Line.{by_field, is_known, is_required}
use Rattle.tables.specs.Longest.{most_of, most_at, most_from}
use Rattle.wire.specs.Map.{map_bytes, map_positions, bit_at, present, with_position}
use Rattle.wire.specs.Number.{Bytes}
use Rattle.wire.specs.Text.{is_character, all_characters, takes, fixed_bytes, variable_bytes}
use Rattle.wire.proofs.MapLaws.{no-bit, length-with, present-with, present-with-other}
use Rattle.wire.proofs.TestLaws.{either}
use Rattle.wire.proofs.TextLaws.{takes-by-characters, length-fixed_bytes, fixed-again, length-variable_bytes, variable-again}
use Rattle.std.specs.Prelude.{None}
use Rattle.fields.specs.Check.{yes_no, fixed_taken, fixed, variable_taken, variable, check_sort, check_row, good_field}
use Rattle.fields.specs.Cut.{positions, cut_at}
use Rattle.fields.specs.Sets.{unknown_to, unknown_at, missing_at, lowest, lowest_unknown, lowest_missing}
use Rattle.fields.specs.Walk.{walk_through, walk_of, all_good}
use Rattle.fields.proofs.BytesLaws.{no_byte, bytes-none, bytes-append, bytes-replicate, bytes-fixed, bytes-variable, bytes-with}
use Rattle.fields.proofs.CheckLaws.{whole_of}
use Rattle.fields.proofs.SetsLaws.{place_none, first-none}
use Rattle.fields.proofs.WalkLaws.{walk_from, walk-on, walk-whole}
use Rattle.fields.proofs.WidthLaws.{width-least, width-most}

-- n letters 'Y', which are characters
abbrev pub letters : ℕ → List ℕ
letters n = replicate n yes

all-letters : (allowed : Allowed) (n : ℕ) → all_characters allowed (letters n) ≡ true
unfolding all_characters is_character
all-letters allowed zero = refl
all-letters Ascii (suc n) = all-letters Ascii n
all-letters Accented (suc n) = all-letters Accented n

-- one fewer than its width fill a text
text-full : (w : ℕ) → 1 ≤ w → length (letters (w - 1)) + 1 ≡ w
text-full w l = rw (length-replicate {A = ℕ} (w - 1) yes) (omega arith)

text-takes : (allowed : Allowed) (w : ℕ) → 1 ≤ w → w ≤ 4096 → takes allowed w (letters (w - 1)) ≡ true
text-takes allowed w l m = takes-by-characters allowed w (letters (w - 1)) (omega (arith, text-full w l)) m ∙ all-letters allowed (w - 1)

-- a full field
unfoldable pub full_sort : Sort → List ℕ
full_sort sort = by_sort letters (λ allowed w. fixed_bytes w (letters (w - 1))) (λ allowed w. variable_bytes (letters (w - 1))) sort

full_size : (sort : Sort) → 1 ≤ width_of sort → length (full_sort sort) ≡ most_of sort
unfolding width_of full_sort most_of
full_size (Number w) l = length-replicate {A = ℕ} w yes
full_size Decimal l = refl
full_size Byte l = refl
full_size YesNo l = refl
full_size (Fixed allowed w) l = length-fixed_bytes w (letters (w - 1)) (omega (arith, text-full w l))
full_size (Variable allowed w) l = length-variable_bytes (letters (w - 1)) ∙ omega (arith, text-full w l)

full-good : (sort : Sort) → 1 ≤ width_of sort → width_of sort ≤ 4096 → (r : List ℕ) → check_sort sort (full_sort sort ++ r) ≡ good_field (most_of sort) (most_of sort)
unfolding width_of check_sort fixed fixed_taken variable variable_taken yes_no full_sort most_of
full-good (Number w) l m r = whole_of w (letters w) r (length-replicate {A = ℕ} w yes)
full-good Decimal l m r = whole_of 8 (letters 8) r refl
full-good Byte l m r = whole_of 1 (letters 1) r refl
full-good YesNo l m r = refl
full-good (Fixed allowed w) l m r = ap fixed_taken (fixed-again allowed w (letters (w - 1)) r (text-takes allowed w l m))
full-good (Variable allowed w) l m r =
    let e : length (letters (w - 1)) + 3 ≡ 2 + w = omega (arith, text-full w l) in
    ap variable_taken (variable-again allowed w (letters (w - 1)) r (text-takes allowed w l m)) ∙ ap (λ (n : ℕ). good_field n n) e

-- the field that a row names, and all that the rows name at the n positions from p on
unfoldable pub full_at : Row → List ℕ
full_at r = by_field (λ f. full_sort (sort_of f)) [] r

unfoldable pub full_from : (ℕ → Row) → ℕ → ℕ → List ℕ
full_from rows zero p = []
full_from rows (suc n) p = full_at (rows p) ++ full_from rows n (suc p)

row-size : (row : Row) → length (full_at row) ≡ most_at row
unfolding full_at most_at
row-size (Required f) = full_size (sort_of f) (width-least f)
row-size (Optional f) = full_size (sort_of f) (width-least f)
row-size UnknownPosition = refl
row-size UnknownType = refl

row-good : (row : Row) (r : List ℕ) → is_known row ≡ true → check_row row (full_at row ++ r) ≡ good_field (most_at row) (most_at row)
unfolding is_known check_row full_at most_at
row-good (Required f) r k = full-good (sort_of f) (width-least f) (width-most f) r
row-good (Optional f) r k = full-good (sort_of f) (width-least f) (width-most f) r
row-good UnknownPosition r k = let z : ◌≡◌ {A = ℕ} 0 1 = cc in absurd (omega arith)
row-good UnknownType r k = let z : ◌≡◌ {A = ℕ} 0 1 = cc in absurd (omega arith)

row-none : (row : Row) → is_known row ≡ false → (full_at row ≡ []) × (most_at row ≡ 0)
unfolding is_known full_at most_at
row-none (Required f) k = let z : ◌≡◌ {A = ℕ} 0 1 = cc in absurd (omega arith)
row-none (Optional f) k = let z : ◌≡◌ {A = ℕ} 0 1 = cc in absurd (omega arith)
row-none UnknownPosition k = (refl, refl)
row-none UnknownType k = (refl, refl)

sort-bytes : (sort : Sort) → Bytes (full_sort sort)
unfolding full_sort
sort-bytes (Number w) = bytes-replicate w yes (omega arith)
sort-bytes Decimal = bytes-replicate 8 yes (omega arith)
sort-bytes Byte = bytes-replicate 1 yes (omega arith)
sort-bytes YesNo = bytes-replicate 1 yes (omega arith)
sort-bytes (Fixed allowed w) = bytes-fixed w (letters (w - 1)) (bytes-replicate (w - 1) yes (omega arith))
sort-bytes (Variable allowed w) = bytes-variable (letters (w - 1)) (bytes-replicate (w - 1) yes (omega arith))

row-bytes : (row : Row) → Bytes (full_at row)
unfolding full_at
row-bytes (Required f) = sort-bytes (sort_of f)
row-bytes (Optional f) = sort-bytes (sort_of f)
row-bytes UnknownPosition = bytes-none
row-bytes UnknownType = bytes-none

module _ (rows : ℕ → Row) where
  -- a map with those of the first n positions that are known
  unfoldable pub map_below : ℕ → List ℕ
  map_below zero = replicate map_bytes 0
  map_below (suc n) = cond (is_known (rows n)) (with_position n (map_below n)) (map_below n)

  map-size : (n : ℕ) → length (map_below n) ≡ map_bytes
  unfolding map_below
  map-size zero = refl
  map-size (suc n) =
      either (λ (m : List ℕ). length m ≡ map_bytes) (is_known (rows n)) (λ e. length-with n (map_below n) ∙ map-size n) (λ e. map-size n)

  -- a position that is not passed yet is clear
  map-clear : (n p : ℕ) → n ≤ p → present (map_below n) p ≡ false
  unfolding map_below present
  map-clear zero p l = ap (λ (b : ℕ). bit_at b (p % 8)) (no_byte map_bytes (p / 8)) ∙ no-bit (p % 8)
  map-clear (suc n) p l =
      let q : p ≢ n = λ e. omega arith in
      either (λ (m : List ℕ). present m p ≡ false) (is_known (rows n))
      (λ e. present-with-other n (map_below n) p q ∙ map-clear n p (omega arith))
      (λ e. map-clear n p (omega arith))

  -- and of those that are, the known ones are set
  map_last : (n : ℕ) → n < map_positions → present (map_below (suc n)) n ≡ is_known (rows n)
  unfolding map_below
  map_last n l = go (is_known (rows n))
    where
      go : (known : Bool) → present (cond known (with_position n (map_below n)) (map_below n)) n ≡ known
      go true = present-with n (map_below n) (rw (map-size n) (omega arith))
      go false = map-clear n n (omega arith)

  map-before : (n p : ℕ) → p < n → present (map_below (suc n)) p ≡ present (map_below n) p
  unfolding map_below
  map-before n p l =
      let q : p ≢ n = λ e. omega arith in
      either (λ (m : List ℕ). present m p ≡ present (map_below n) p) (is_known (rows n))
      (λ e. present-with-other n (map_below n) p q) (λ e. refl)

  map-known : (n p : ℕ) → p < n → n ≤ map_positions → present (map_below n) p ≡ is_known (rows p)
  map-known zero p l u = absurd (omega arith)
  map-known (suc n) p l u =
      let below : p ≤ n = omega arith in
      ⊎_elim
      (λ e. ap (present (map_below (suc n))) e ∙ map_last n (omega arith) ∙ ap (λ (k : ℕ). is_known (rows k)) (sym e))
      (λ h. map-before n p h ∙ map-known n p h (omega arith))
      (eq-or-lt_of_le below)

  unfoldable pub full_map : List ℕ
  full_map = map_below map_positions

  unfoldable pub full_body : List ℕ
  full_body = full_from rows map_positions 0

  pub full-map-size : length full_map ≡ map_bytes
  unfolding full_map
  full-map-size = map-size map_positions

  full-known : (p : ℕ) → p < map_positions → present full_map p ≡ is_known (rows p)
  unfolding full_map
  full-known p l = map-known map_positions p l (omega arith)

  -- the walk over the full fields
  walk_step : (n p sum : ℕ) (known : Bool) → is_known (rows p) ≡ known → present full_map p ≡ known
      → ((sum : ℕ) → walk_from rows (positions full_map n (suc p)) sum (full_from rows n (suc p)) ≡ all_good 0 (sum + most_from rows n (suc p)))
      → walk_from rows (positions full_map (suc n) p) sum (full_from rows (suc n) p) ≡ all_good 0 (sum + most_from rows (suc n) p)
  unfolding positions full_from most_from
  walk_step n p sum true k h again =
      let rest = full_from rows n (suc p) in
      let e : sum + most_at (rows p) + most_from rows n (suc p) ≡ sum + (most_at (rows p) + most_from rows n (suc p)) = omega arith in
      rw h (walk-on rows p (positions full_map n (suc p)) sum (most_at (rows p)) (most_at (rows p)) (full_at (rows p) ++ rest) (row-good (rows p) rest k)
      ∙ ap (walk_from rows (positions full_map n (suc p)) (sum + most_at (rows p))) (drop_at (full_at (rows p)) rest (most_at (rows p)) (row-size (rows p)))
      ∙ again (sum + most_at (rows p)) ∙ ap (all_good 0) e)
  walk_step n p sum false k h again =
      let none = row-none (rows p) k in
      rw (h, none.0, none.1, zero-add) (again sum)

  walk-full : (n p sum : ℕ) → n + p ≤ map_positions → walk_from rows (positions full_map n p) sum (full_from rows n p) ≡ all_good 0 (sum + most_from rows n p)
  unfolding positions full_from most_from walk_from cut_at walk_through
  walk-full zero p sum l = rw add-zero refl
  walk-full (suc n) p sum l =
      walk_step n p sum (is_known (rows p)) refl (full-known p (omega arith)) (λ k. walk-full n (suc p) k (omega arith))

  pub full-walk : walk_of rows full_map full_body ≡ all_good 0 (most_from rows map_positions 0)
  unfolding full_body
  full-walk =
      sym (walk-whole rows full_map full_body) ∙ walk-full map_positions 0 0 (omega arith) ∙ ap (all_good 0) (zero-add (most_from rows map_positions 0))

  -- no position is unknown, and none is missing
  known-or-clear : (p : ℕ) → present full_map p ≡ is_known (rows p) → unknown_at rows full_map p ≡ false
  unfolding unknown_at unknown_to
  known-or-clear p e = rw e (go (is_known (rows p)))
    where
      go : (known : Bool) → cond known (not known) false ≡ false
      go true = refl
      go false = refl

  required-or-known : (p : ℕ) → present full_map p ≡ is_known (rows p) → missing_at rows full_map p ≡ false
  unfolding missing_at is_known is_required
  required-or-known p e = rw e (go (rows p))
    where
      go : (r : Row) → cond (is_required r) (not (is_known r)) false ≡ false
      go (Required f) = refl
      go (Optional f) = refl
      go UnknownPosition = refl
      go UnknownType = refl

  nowhere : (test : ℕ → Bool) → ((p : ℕ) → present full_map p ≡ is_known (rows p) → test p ≡ false) → lowest test ≡ None
  nowhere test none = sym (place_none test (first-none test (record { none = λ p l. none p (full-known p l) })))

  pub full-unknown : lowest_unknown rows full_map ≡ None
  unfolding lowest_unknown
  full-unknown = nowhere (unknown_at rows full_map) known-or-clear

  pub full-missing : lowest_missing rows full_map ≡ None
  unfolding lowest_missing
  full-missing = nowhere (missing_at rows full_map) required-or-known

  -- and both are bytes
  map-bytes : (n : ℕ) → Bytes (map_below n)
  unfolding map_below
  map-bytes zero = bytes-replicate map_bytes 0 (omega arith)
  map-bytes (suc n) = either Bytes (is_known (rows n)) (λ e. bytes-with n (map_below n) (map-bytes n)) (λ e. map-bytes n)

  from_bytes : (n p : ℕ) → Bytes (full_from rows n p)
  unfolding full_from
  from_bytes zero p = bytes-none
  from_bytes (suc n) p = bytes-append (full_at (rows p)) (full_from rows n (suc p)) (row-bytes (rows p)) (from_bytes n (suc p))

  pub full-map-bytes : Bytes full_map
  unfolding full_map
  full-map-bytes = map-bytes map_positions

  pub full-body-bytes : Bytes full_body
  unfolding full_body
  full-body-bytes = from_bytes map_positions 0
