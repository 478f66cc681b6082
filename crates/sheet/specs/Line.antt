-- A line of daysheet (document 01, "Program daysheet"): kind=K n=N dup=D new=X, with single blanks.
use Rattle.std.specs.Prelude.{ℕ, ◌+◌, ◌-◌, ◌*◌, Bool, true, false, cond, List, [], ◌∷◌, eqb, leb, length, drop, Option, Some, None}
use Rattle.wire.specs.Spelled.{spelled}
use Rattle.sheet.specs.declared.line.Kind.{Kind}
use Rattle.sheet.specs.declared.line.Kind.TheVariants.{Logon, Business, GapFill, Reset}
use Rattle.sheet.specs.declared.line.Line.{Line}
use Rattle.session.specs.State.{last}

-- the kinds in numbers
unfoldable pub kind_number : Kind → ℕ
kind_number Logon = 0
kind_number Business = 1
kind_number GapFill = 2
kind_number Reset = 3

-- a line in four numbers
unfoldable pub numbers_in : Line → List ℕ
numbers_in l = kind_number l.kind ∷ l.n ∷ l.dup ∷ l.new ∷ []

-- s begins with these bytes
unfoldable pub begins : List ℕ → List ℕ → Bool
begins [] s = true
begins (c ∷ w) [] = false
begins (c ∷ w) (b ∷ s) = cond (eqb c b) (begins w s) false

-- what stands after these bytes, if s begins with them
unfoldable pub after : List ℕ → (List ℕ → Option Line) → List ℕ → Option Line
after w rest s = cond (begins w s) (rest (drop (length w) s)) None

unfoldable pub is_digit : ℕ → Bool
is_digit b = cond (leb 48 b) (leb b 57) false

-- a number of one or more digits, and what stands after it
unfoldable pub digits_from : ℕ → (ℕ → List ℕ → Option Line) → List ℕ → Option Line
digits_from n rest [] = rest n []
digits_from n rest (b ∷ s) = cond (is_digit b) (digits_from (n * 10 + (b - 48)) rest s) (rest n (b ∷ s))

unfoldable pub number : (ℕ → List ℕ → Option Line) → List ℕ → Option Line
number rest [] = None
number rest (b ∷ s) = cond (is_digit b) (digits_from 0 rest (b ∷ s)) None

-- the most that new may be: 0 where none is used
unfoldable pub most_new : Kind → ℕ
most_new Logon = 0
most_new Business = 0
most_new GapFill = last
most_new Reset = last

-- bad: anything after it, n=0, a number past 32 bits, a dup above 1, a new where none is used
unfoldable pub line_of : Kind → ℕ → ℕ → ℕ → List ℕ → Option Line
line_of kind n dup new [] =
    cond (leb 1 n) (
    cond (leb n last) (
    cond (leb dup 1) (
    cond (leb new (most_new kind)) (Some (record { kind = kind; n = n; dup = dup; new = new }))
    None)
    None)
    None)
    None
line_of kind n dup new (b ∷ s) = None

-- the three numbers of a line of this kind
unfoldable pub numbers_of : Kind → List ℕ → Option Line
numbers_of kind = number (λ n. after (spelled " dup=") (number (λ dup. after (spelled " new=") (number (λ new. line_of kind n dup new)))))

-- what a line says, without its line end
unfoldable pub said_of : List ℕ → Option Line
said_of s =
    cond (begins (spelled "kind=logon n=") s) (after (spelled "kind=logon n=") (numbers_of Logon) s) (
    cond (begins (spelled "kind=business n=") s) (after (spelled "kind=business n=") (numbers_of Business) s) (
    cond (begins (spelled "kind=gapfill n=") s) (after (spelled "kind=gapfill n=") (numbers_of GapFill) s) (
    cond (begins (spelled "kind=reset n=") s) (after (spelled "kind=reset n=") (numbers_of Reset) s)
    None)))
