-- The arrivals of the plain recorder in a lent list (document 02, item 11): the list and the count are all that is kept.
use Rattle.std.specs.Prelude.{ℕ, ◌+◌, Bool, true, cond, List, [], ◌∷◌, ◌++◌, eqb, leb, length, get_or, take, set, Option, Some, None}
use Rattle.sheet.specs.declared.line.Kind.{Kind}
use Rattle.sheet.specs.declared.line.Kind.TheVariants.{Logon, Business, GapFill, Reset}
use Rattle.sheet.specs.declared.line.Line.{Line}
use Rattle.sheet.specs.Line.{kind_number, numbers_in}
use Rattle.plain.specs.declared.Told.{Told}
use Rattle.plain.specs.Plain.{worked_out}

-- a list holds at most so many
abbrev pub most_arrivals : ℕ
most_arrivals = 4096

-- a kind by its number; any that is none of the other three's is a gap fill's
unfoldable pub kind_at : ℕ → Kind
kind_at k =
    cond (eqb k (kind_number Logon)) Logon (
    cond (eqb k (kind_number Reset)) Reset (
    cond (eqb k (kind_number Business)) Business
    GapFill))

abbrev pub line_in : ℕ → ℕ → ℕ → ℕ → Line
line_in kind n dup new = record { kind = kind_at kind; n = n; dup = dup; new = new }

-- the arrivals that a list holds, each in four numbers
unfoldable pub lines_in : List (List ℕ) → List Line
lines_in [] = []
lines_in (a ∷ list) = line_in (get_or a 0 0) (get_or a 1 0) (get_or a 2 0) (get_or a 3 0) ∷ lines_in list

-- 41: it holds 4,096, or has no room for one more; a count that is more than it holds is refused the same way
unfoldable pub is_full : List (List ℕ) → ℕ → Bool
is_full list count = cond (leb most_arrivals count) true (leb (length list) count)

-- the list, whose first `count` have arrived, with one arrival more
unfoldable pub list_after : List (List ℕ) → ℕ → Line → List (List ℕ)
list_after list count l = cond (is_full list count) list (set list count (numbers_in l))

-- how many have arrived then, and what the last one gives
unfoldable pub arrived : List (List ℕ) → ℕ → Line → Option (ℕ × Told)
arrived list count l = cond (is_full list count) None (Some (count + 1, worked_out (lines_in (take count list) ++ l ∷ [])))

-- the number of a refusal, 0 where there is none
unfoldable pub arrived_number : Option (ℕ × Told) → ℕ
arrived_number (Some kept) = 0
arrived_number None = 41
