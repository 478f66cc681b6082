-- What is made of bytes is bytes: parts one behind another, texts in plain form, a map with one position more, and the plain form of a body.
use Rattle.std.proofs.Common.{Option, Some, None}
use mathlib.Core.Path.{◌≡◌, refl}
use mathlib.Core.List.{List, [], ◌∷◌, ◌++◌}
use Prim.Native.Nat.{ℕ, zero, suc, ◌+◌, ◌-◌, ◌/◌, ◌%◌, ◌<◌}
use native.Mathlib.Omega.{arith}
use native.Mathlib.Nat.{zero-lt-suc}
use lib.Dec.{ltb}
use lib.ListN.{length, drop, get_or, set, replicate}
use Rattle.tables.specs.declared.dictionary.Sort.{Sort}
use Rattle.tables.specs.declared.dictionary.Sort.TheVariants.{Number, Decimal, Byte, YesNo, Fixed, Variable}
use Rattle.tables.specs.declared.table.Row.{Row}
use Rattle.tables.specs.declared.table.Row.TheVariants.{Required, Optional, UnknownPosition, UnknownType}
use Rattle.tables.specs.Dictionary.{sort_of}
use Rattle.wire.specs.declared.text.Text.{Text}
use Rattle.wire.specs.Map.{bit_at, with_bit, with_position, map_positions}
use Rattle.wire.specs.Number.{Bytes, number_bytes}
use Rattle.wire.specs.Text.{fixed_text, variable_text, characters_of, fixed_part, variable_part, fixed_bytes, variable_bytes}
use Rattle.wire.proofs.MapLaws.{with-bit-small}
use Rattle.wire.proofs.TestLaws.{either}
use Rattle.wire.proofs.NumberLaws.{bytes_take, bytes_drop, number_bytes-bytes}
use Rattle.fields.specs.Cut.{extent_of, positions, cut_at, cut}
use Rattle.fields.specs.Plain.{plain_sort, plain_row, plain_pieces, plain_fields}

-- among zeros, and behind them, stands no other byte
pub no_byte : (n k : ℕ) → ◌≡◌ {A = ℕ} (get_or (replicate n 0) k 0) 0
no_byte zero k = refl
no_byte (suc n) zero = refl
no_byte (suc n) (suc k) = no_byte n k

pub bytes-none : Bytes []
bytes-none k = zero-lt-suc 255

pub bytes-append : (a b : List ℕ) → Bytes a → Bytes b → Bytes (a ++ b)
bytes-append [] b p q k = q k
bytes-append (x ∷ a) b p q zero = p zero
bytes-append (x ∷ a) b p q (suc k) = bytes-append a b (λ j. p (suc j)) q k

pub bytes-replicate : (n b : ℕ) → b < 256 → Bytes (replicate n b)
bytes-replicate zero b h k = zero-lt-suc 255
bytes-replicate (suc n) b h zero = h
bytes-replicate (suc n) b h (suc k) = bytes-replicate n b h k

bytes-set : (bs : List ℕ) (i b : ℕ) → Bytes bs → b < 256 → Bytes (set bs i b)
bytes-set [] i b p h k = zero-lt-suc 255
bytes-set (x ∷ bs) zero b p h zero = h
bytes-set (x ∷ bs) zero b p h (suc k) = p (suc k)
bytes-set (x ∷ bs) (suc i) b p h zero = p zero
bytes-set (x ∷ bs) (suc i) b p h (suc k) = bytes-set bs i b (λ j. p (suc j)) h k

-- texts in plain form
pub bytes-fixed : (w : ℕ) (t : List ℕ) → Bytes t → Bytes (fixed_bytes w t)
unfolding fixed_bytes
bytes-fixed w t p = bytes-append t (replicate (w - length t) 0) p (bytes-replicate (w - length t) 0 (zero-lt-suc 255))

pub bytes-variable : (t : List ℕ) → Bytes t → Bytes (variable_bytes t)
unfolding variable_bytes
bytes-variable t p =
    bytes-append (number_bytes 2 (length t + 1)) (t ++ 0 ∷ []) (number_bytes-bytes 2 (length t + 1))
    (bytes-append t (0 ∷ []) p (bytes-replicate 1 0 (zero-lt-suc 255)))

-- a map with one position more
pub bytes-with : (p : ℕ) (m : List ℕ) → Bytes m → Bytes (with_position p m)
unfolding with_position with_bit
bytes-with p m b =
    let old = get_or m (p / 8) 0 in
    let l : p % 8 < 8 = omega arith in
    let small : with_bit old (p % 8) < 256 =
    either (λ (n : ℕ). n < 256) (bit_at old (p % 8)) (λ e. b (p / 8)) (λ e. with-bit-small old (p % 8) l e (b (p / 8))) in
    either Bytes (ltb (p / 8) (length m)) (λ e. bytes-set m (p / 8) (with_bit old (p % 8)) b small) (λ e. b)

-- the plain form of a body
part_bytes : (t : Option Text) (s : List ℕ) → Bytes s → Bytes (characters_of t s)
unfolding characters_of
part_bytes (Some text) s b = bytes_take text.characters s b
part_bytes None s b = bytes-none

sort-bytes : (sort : Sort) (s : List ℕ) → Bytes s → Bytes (plain_sort sort s)
unfolding plain_sort fixed_part variable_part
sort-bytes (Number w) s b = bytes_take w s b
sort-bytes Decimal s b = bytes_take 8 s b
sort-bytes Byte s b = bytes_take 1 s b
sort-bytes YesNo s b = bytes_take 1 s b
sort-bytes (Fixed allowed w) s b = bytes-fixed w (fixed_part allowed w s) (part_bytes (fixed_text allowed w s) s b)
sort-bytes (Variable allowed w) s b = bytes-variable (variable_part allowed w s) (part_bytes (variable_text allowed w s) (drop 2 s) (bytes_drop 2 s b))

row-bytes : (row : Row) (s : List ℕ) → Bytes s → Bytes (plain_row row s)
unfolding plain_row
row-bytes (Required f) s b = sort-bytes (sort_of f) s b
row-bytes (Optional f) s b = sort-bytes (sort_of f) s b
row-bytes UnknownPosition s b = bytes-none
row-bytes UnknownType s b = bytes-none

pieces-bytes : (rows : ℕ → Row) (ps s : List ℕ) → Bytes s → Bytes (plain_pieces rows (cut_at rows ps s))
unfolding plain_pieces cut_at
pieces-bytes rows [] s b = bytes-none
pieces-bytes rows (p ∷ ps) s b =
    bytes-append (plain_row (rows p) s) (plain_pieces rows (cut_at rows ps (drop (extent_of (rows p) s) s))) (row-bytes (rows p) s b)
    (pieces-bytes rows ps (drop (extent_of (rows p) s) s) (bytes_drop (extent_of (rows p) s) s b))

pub plain-bytes : (rows : ℕ → Row) (m body : List ℕ) → Bytes body → Bytes (plain_fields rows m body)
unfolding plain_fields cut
plain-bytes rows m body b = pieces-bytes rows (positions m map_positions 0) body b
