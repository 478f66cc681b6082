-- A number of a line as it is read into 64 bits: past 32 bits it stays at 4,294,967,296, which no line takes.
use Rattle.std.specs.Prelude.{ℕ, ◌+◌, ◌-◌, ◌*◌, ◌≤◌, ◌<◌, cond, List, ◌≡◌, eqb, leb, length, drop, Option, None}
use Rattle.session.specs.State.{last}
use Rattle.sheet.specs.declared.line.Line.{Line}
use Rattle.sheet.specs.Line.{number}

unfoldable pub capped : ℕ → ℕ
capped n = cond (leb n last) n (last + 1)

unfoldable pub with_digit : ℕ → ℕ → ℕ
with_digit n b = capped (n * 10 + (b - 48))

-- what follows does not tell numbers past 32 bits apart
abbrev pub Blind : (ℕ → List ℕ → Option Line) → Type 0
Blind rest = (m n : ℕ) (s : List ℕ) → last < m → last < n → rest m s ≡ rest n s

-- so many digits of this value stand at the front of s
pub record NumberRead (s : List ℕ) (value digits : ℕ) : Type 0 where
  pub within : digits ≤ length s
  pub says : (rest : ℕ → List ℕ → Option Line) → Blind rest → number rest s ≡ cond (eqb digits 0) None (rest value (drop digits s))

-- no number stands at the front of s; or this one, and `tail` after it
abbrev pub HasNone : List ℕ → Type 0
HasNone s = (rest : ℕ → List ℕ → Option Line) → Blind rest → number rest s ≡ None

abbrev pub Has : List ℕ → ℕ → List ℕ → Type 0
Has s value tail = (rest : ℕ → List ℕ → Option Line) → Blind rest → number rest s ≡ rest value tail
