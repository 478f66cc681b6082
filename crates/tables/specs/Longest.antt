-- How long a good message can be (document 02, item 4): the frame, and every field of its type's tables with each text full.
use Rattle.std.specs.Prelude.{ℕ, zero, suc, ◌+◌, List, [], ◌∷◌, get_or}
use Rattle.wire.specs.Map.{map_positions}
use Rattle.tables.specs.declared.dictionary.Sort.{Sort}
use Rattle.tables.specs.declared.table.Row.{Row}
use Rattle.tables.specs.Dictionary.{by_sort, sort_of}
use Rattle.tables.specs.Line.{by_field}
use Rattle.tables.specs.Tables.{row_of}

-- 004 sections 7.4 and 7.5: the header and the trailer, which are a message without fields
abbrev pub frame_bytes : ℕ
frame_bytes = 58

-- 004 section 6.1: a field of this sort at its longest; a variable text has two bytes of length before it
unfoldable pub most_of : Sort → ℕ
most_of sort = by_sort (λ w. w) (λ allowed w. w) (λ allowed w. 2 + w) sort

-- the field that a row names; none takes none
unfoldable pub most_at : Row → ℕ
most_at r = by_field (λ f. most_of (sort_of f)) 0 r

-- all fields that the rows name at the n positions from p on
unfoldable pub most_from : (ℕ → Row) → ℕ → ℕ → ℕ
most_from rows zero p = 0
most_from rows (suc n) p = most_at (rows p) + most_from rows n (suc p)

-- a message of this type at its longest
abbrev pub longest_of : ℕ → ℕ
longest_of messagetype = frame_bytes + most_from (row_of messagetype) map_positions 0

-- The longest length of each message type, from type 0 on.
unfoldable pub longest_lengths : List ℕ
longest_lengths = 60 ∷ 60 ∷ 66 ∷ 213 ∷ 63 ∷ 1016 ∷ 136 ∷ 60 ∷ 173 ∷ 213 ∷ 499 ∷ []

-- of one type; 0 where it has no table
unfoldable pub longest_length : ℕ → ℕ
longest_length messagetype = get_or longest_lengths messagetype 0

-- the longest of them all
abbrev pub longest_written : ℕ
longest_written = 1016
