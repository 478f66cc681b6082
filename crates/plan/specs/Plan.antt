-- The bench's resend plan (document 01, "The bench's resend plan"): what a gateway sends again for a Resend Request from s to e.
use Rattle.std.specs.Prelude.{ℕ, ◌+◌, ◌-◌, ◌*◌, min, Bool, true, false, cond, ◌&&◌, ◌||◌, List, [], ◌∷◌, ◌++◌, eqb, leb, length, take, drop, Result, Ok, Err}
use Rattle.wire.specs.Laying.{no_room}
use Rattle.plan.specs.declared.NotPlanned.{NotPlanned}
use Rattle.plan.specs.declared.NotPlanned.TheVariants.{BadRequest, NoRoom}

-- document 01's number of each answer; 0 where nothing is refused
unfoldable pub refusal : Result ℕ NotPlanned → ℕ
refusal (Ok pairs) = 0
refusal (Err BadRequest) = 40
refusal (Err (NoRoom pairs)) = no_room

-- one part of a plan: business number `first`, with `new` 0, or a gap fill from `first` to `new`
pub record Part : Type 0 where
  pub first : ℕ
  pub new : ℕ

abbrev pub business : ℕ → Part
business n = record { first = n; new = 0 }

abbrev pub gap_fill : ℕ → ℕ → Part
gap_fill first new = record { first = first; new = new }

-- session number n, before what is sent for the numbers after it: it joins the gap fill that begins right after it
unfoldable pub session : ℕ → List Part → List Part
session n [] = gap_fill n (n + 1) ∷ []
session n (p ∷ ps) = cond (eqb p.new 0) (gap_fill n (n + 1) ∷ p ∷ ps) (gap_fill n p.new ∷ ps)

-- the numbers from n on, as the list says: business (1) or session (0)
unfoldable pub parts_from : ℕ → List ℕ → List Part
parts_from n [] = []
parts_from n (b ∷ bs) = cond (eqb b 1) (business n ∷ parts_from (n + 1) bs) (session n (parts_from (n + 1) bs))

-- those behind the first i numbers of the list
abbrev pub parts_at : List ℕ → ℕ → List Part
parts_at list i = parts_from (i + 1) (drop i list)

-- End 0 or too large is the last number
unfoldable pub last_number : List ℕ → ℕ → ℕ
last_number list e = cond (eqb e 0) (length list) (min e (length list))

-- the plan from s to e
unfoldable pub parts_of : List ℕ → ℕ → ℕ → List Part
parts_of list s e = parts_from s (drop (s - 1) (take (last_number list e) list))

-- every byte of the list is 0 or 1
unfoldable pub all_marked : List ℕ → Bool
all_marked [] = true
all_marked (b ∷ bs) = cond (leb b 1) (all_marked bs) false

-- the most numbers of a list
abbrev pub longest_list : ℕ
longest_list = 65536

-- 40: list too long, another byte value, s of 0 or past the list, e not 0 and below s
unfoldable pub is_request : List ℕ → ℕ → ℕ → Bool
is_request list s e = leb (length list) longest_list && all_marked list && leb 1 s && leb s (length list) && (eqb e 0 || leb s e)

-- written as pairs of numbers
unfoldable pub pairs : List Part → List ℕ
pairs [] = []
pairs (p ∷ ps) = p.first ∷ p.new ∷ pairs ps

-- at the front of a lent buffer
abbrev pub paired : List Part → List ℕ → List ℕ
paired ps d = pairs ps ++ drop (2 * length ps) d

-- the answer, and the lent buffer afterwards: nothing written on a refusal
unfoldable pub answered : Bool → List Part → List ℕ → Result ℕ NotPlanned
answered good ps d = cond good (cond (leb (2 * length ps) (length d)) (Ok (length ps)) (Err (NoRoom (length ps)))) (Err BadRequest)

unfoldable pub paired_in : Bool → List Part → List ℕ → List ℕ
paired_in good ps d = cond good (cond (leb (2 * length ps) (length d)) (paired ps d) d) d

abbrev pub plan_of : List ℕ → ℕ → ℕ → List ℕ → Result ℕ NotPlanned
plan_of list s e = answered (is_request list s e) (parts_of list s e)

abbrev pub planned : List ℕ → ℕ → ℕ → List ℕ → List ℕ
planned list s e = paired_in (is_request list s e) (parts_of list s e)
