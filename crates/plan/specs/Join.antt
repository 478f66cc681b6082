-- Plans that join (document 02, item 12): the plan for s to m, and the plan for m + 1 to e behind it.
use Rattle.std.specs.Prelude.{ℕ, ◌+◌, ◌-◌, ◌%◌, ◌<◌, ◌≡◌, Bool, not, cond, ◌&&◌, List, [], ◌∷◌, ◌++◌, eqb, ltb, length, get_or, Result}
use Rattle.plan.specs.Plan.{Part, gap_fill, parts_of, pairs, answered, paired_in}
use Rattle.plan.specs.declared.NotPlanned.{NotPlanned}

-- two gap fills touch: a to b and b to c, a below b and b below c
unfoldable pub touch : Part → Part → Bool
touch p q = ltb p.first p.new && eqb p.new q.first && ltb q.first q.new

-- the last part of the one plan and the parts of the other: two gap fills that touch are one, a to c
unfoldable pub before : Part → List Part → List Part
before p [] = p ∷ []
before p (q ∷ qs) = cond (touch p q) (gap_fill p.first q.new ∷ qs) (p ∷ q ∷ qs)

-- the one plan, and the other behind it
unfoldable pub join : List Part → List Part → List Part
join [] qs = qs
join (p ∷ []) qs = before p qs
join (p ∷ r ∷ ps) qs = p ∷ join (r ∷ ps) qs

-- ---- of plans that are lent as pairs of numbers

-- the parts that pairs stand for; half a pair at the end is none, and is refused
unfoldable pub parts_in : List ℕ → List Part
parts_in [] = []
parts_in (first ∷ []) = []
parts_in (first ∷ new ∷ ns) = record { first = first; new = new } ∷ parts_in ns

-- 40: half a pair at the end
unfoldable pub is_pairs : List ℕ → Bool
is_pairs ns = eqb (length ns % 2) 0

-- the parts of two plans that are lent so, joined
abbrev pub joined : List ℕ → List ℕ → List Part
joined one other = join (parts_in one) (parts_in other)

-- the answer, and the lent buffer afterwards
abbrev pub join_of : List ℕ → List ℕ → List ℕ → Result ℕ NotPlanned
join_of one other = answered (is_pairs one && is_pairs other) (joined one other)

abbrev pub joined_in : List ℕ → List ℕ → List ℕ → List ℕ
joined_in one other = paired_in (is_pairs one && is_pairs other) (joined one other)

-- what the code looks at: how many of the other's numbers fall away, its first pair where the one's last touches it
unfoldable pub seam : List ℕ → List ℕ → ℕ
seam one other =
    cond (ltb (length one) 2) 0 (
    cond (ltb (length other) 2) 0 (
    cond (touch (gap_fill (get_or one (length one - 2) 0) (get_or one (length one - 1) 0)) (gap_fill (get_or other 0 0) (get_or other 1 0))) 2 0))

-- ---- what the theorems speak of

-- the numbers that `plan` writes where it does not refuse
abbrev pub plan_pairs : List ℕ → ℕ → ℕ → List ℕ
plan_pairs list s e = pairs (parts_of list s e)

-- n is a session number of the list, one that is not business
unfoldable pub is_session : List ℕ → ℕ → Bool
is_session list n = not (eqb (get_or list (n - 1) 0) 1)

-- m and m + 1 are both session numbers
abbrev pub both_session : List ℕ → ℕ → Bool
both_session list m = is_session list m && is_session list (m + 1)

-- the one plan ends with a gap fill a to b, the other begins with one b to c, and the whole has one a to c in their place
pub record Touching (one other whole : List ℕ) : Type 0 where
  pub front : List ℕ
  pub a : ℕ
  pub b : ℕ
  pub c : ℕ
  pub rest : List ℕ
  pub one-is : one ≡ front ++ (a ∷ b ∷ [])
  pub other-is : other ≡ b ∷ c ∷ rest
  pub whole_is : whole ≡ front ++ (a ∷ c ∷ rest)
  pub up-to-b : a < b
  pub up-to-c : b < c
