-- What the laws of a plan speak of (document 01, "The bench's resend plan").
use Rattle.std.specs.Prelude.{ℕ, ◌+◌, ◌-◌, Bool, false, cond, eqb, leb, ltb, get_or}
use mathlib.Core.List.{List, foldr}
use Rattle.plan.specs.Plan.{Part, last_number}

-- k is one of n, .., m - 1
unfoldable pub within : ℕ → ℕ → ℕ → Bool
within n m k = cond (leb n k) (ltb k m) false

-- from s to e, number k is marked so in the list: business (1) or session (0)
unfoldable pub is_marked : ℕ → List ℕ → ℕ → ℕ → ℕ → Bool
is_marked mark list s e k = cond (within s (last_number list e + 1) k) (eqb (get_or list (k - 1) 0) mark) false

-- part p says that k is a business number
unfoldable pub names : ℕ → Part → Bool
names k p = cond (eqb p.new 0) (eqb p.first k) false

-- part p is a gap fill over k: New is the number after its last
unfoldable pub covers : ℕ → Part → Bool
covers k p = within p.first p.new k

-- how many parts of a plan pass a test
unfoldable pub times : (Part → Bool) → List Part → ℕ
times f = foldr (λ (p : Part) (n : ℕ). cond (f p) 1 0 + n) 0
