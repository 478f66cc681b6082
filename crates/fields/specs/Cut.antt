-- The cut of a body into its fields (004 section 6.2.1: fields stand in rising position). It goes from field to field by the widths alone, over
-- any table of rows; the checks, the values and the plain form look at its pieces.
use Rattle.std.specs.Prelude.{ℕ, zero, suc, ◌+◌, ◌-◌, ◌^◌, cond, eqb, leb, length, take, drop}
use mathlib.Core.List.{List, [], ◌∷◌, foldr}
use Rattle.tables.specs.declared.dictionary.Sort.{Sort}
use Rattle.tables.specs.declared.table.Row.{Row}
use Rattle.tables.specs.Dictionary.{by_sort, sort_of}
use Rattle.tables.specs.Line.{by_field}
use Rattle.wire.specs.Map.{map_positions, present}
use Rattle.wire.specs.Number.{number}

-- the set positions of a map among the n from p on, rising
unfoldable pub positions : List ℕ → ℕ → ℕ → List ℕ
positions m zero p = []
positions m (suc n) p = cond (present m p) (p ∷ positions m n (suc p)) (positions m n (suc p))

-- how many bytes a field takes: its width, and a variable text its two bytes of length and as many as they say
unfoldable pub extent : Sort → List ℕ → ℕ
extent sort s = by_sort (λ w. w) (λ allowed w. w) (λ allowed w. 2 + number (take 2 s)) sort

-- the field that a row names, at the front of s; none takes none
unfoldable pub extent_of : Row → List ℕ → ℕ
extent_of r s = by_field (λ f. extent (sort_of f) s) 0 r

-- a field of a body: its position, and the bytes from it on
pub record Piece : Type 0 where
  pub position : ℕ
  pub bytes : List ℕ

-- s cut into the fields at these positions, as the rows say
unfoldable pub cut_at : (ℕ → Row) → List ℕ → List ℕ → List Piece
cut_at rows [] s = []
cut_at rows (p ∷ ps) s = record { position = p; bytes = s } ∷ cut_at rows ps (drop (extent_of (rows p) s) s)

-- a body with this map
unfoldable pub cut : (ℕ → Row) → List ℕ → List ℕ → List Piece
cut rows m body = cut_at rows (positions m map_positions 0) body

-- the bytes from the field at position p on; none where there is no such field
unfoldable pub bytes_at : ℕ → List Piece → List ℕ
bytes_at p = foldr (λ (x : Piece) (rest : List ℕ). cond (eqb x.position p) x.bytes rest) []

-- a map's head: so many positions, which one number of eight bytes holds
abbrev pub head_positions : ℕ
head_positions = 64

-- rising positions of a head as one number, the first position in the highest bit
unfoldable pub word_of : List ℕ → ℕ
word_of [] = 0
word_of (p ∷ ps) = 2 ^ (63 - p) + word_of ps

-- the head of a map that has eight bytes or more
unfoldable pub head_of : List ℕ → ℕ
head_of m = cond (leb 8 (length m)) (word_of (positions m head_positions 0)) 0
