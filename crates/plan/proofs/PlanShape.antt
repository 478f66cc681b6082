-- What a plan is, said of its parts: from s to the last number each business number is named once and no other number is, each session number is
-- covered by one gap fill and no other number is, the parts rise, no gap fill touches another, and each is a longest run.
use mathlib.Core.Path.{◌≡◌, refl, sym, ap, subst, ◌∙◌}
use mathlib.Core.Logic.{◌⊎◌, inl, inr}
use Prim.Native.Nat.{ℕ, zero, suc, ◌+◌, ◌-◌, ◌≤◌, ◌<◌}
use native.Mathlib.Nat.{le_of_suc-le-suc, zero-add, add-zero}
use native.Mathlib.Omega.{arith}
use mathlib.Core.Bool.{Bool, true, false, cond}
use mathlib.Core.List.{List, [], ◌∷◌}
use lib.Dec.{eqb, leb, ltb}
use lib.ListN.{length, get_or, take, drop, get_or-eq_default}
use lib.Seq.{get_or-drop, get_or-take, length-slice}
use borrow.Author.Tests.{eq-eqb, ne_eqb, le-leb, lt-leb, lt-ltb, le-ltb, ltb-true, ltb-false, leb-true}
use Rattle.plan.specs.Plan.{Part, business, gap_fill, session, parts_from, last_number, parts_of, all_marked, is_request}
use Rattle.plan.specs.Shape.{within, is_marked, names, covers, times}
use Rattle.plan.proofs.PlanLaws.{Request, requested, last_within}

-- ---- the words

abbrev once : Bool → ℕ
once t = cond t 1 0

abbrev part_at : List Part → ℕ → Part
part_at ps i = get_or ps i (business 0)

-- of two parts, the later begins at a higher number
abbrev Rising : List Part → Type 0
Rising ps = (i j : ℕ) → i < j → j < length ps → (part_at ps i).first < (part_at ps j).first

-- of two gap fills, the later begins past the number that follows the earlier
abbrev Apart : List Part → Type 0
Apart ps = (i j : ℕ) → i < j → j < length ps → 0 < (part_at ps i).new → 0 < (part_at ps j).new → (part_at ps i).new < (part_at ps j).first

-- the parts stand for n, .., m - 1 without a hole, and what follows a gap fill is a business number
pub data Follows : ℕ → ℕ → List Part → Type 0 where
  none : {n : ℕ} → Follows n n []
  one : {n m : ℕ} {ps : List Part} → Follows (n + 1) m ps → Follows n m (business n ∷ ps)
  fill : {n m : ℕ} → n < m → Follows n m (gap_fill n m ∷ [])
  fill-then : {n g m : ℕ} {ps : List Part} → n < g → Follows (g + 1) m ps → Follows n m (gap_fill n g ∷ business g ∷ ps)

-- ---- a plan follows

-- a session number before parts that follow from the next number on
follows-session : {n m k : ℕ} {ps : List Part} → k ≡ n + 1 → Follows k m ps → Follows n m (session n ps)
unfolding session
follows-session {n = n} {k = k} e none = subst (λ (x : ℕ). Follows n x (gap_fill n (n + 1) ∷ [])) (sym e) (fill (omega arith))
follows-session {n = n} {m = m} {k = k} e (one {ps = ps} f) =
    subst (λ (x : ℕ). Follows n m (gap_fill n x ∷ business k ∷ ps)) e (fill-then (omega arith) f)
follows-session {n = n} {m = m} {k = k} e (fill h) = let l : n < m = omega arith in rw (ne_eqb m 0 (λ z. omega arith)) (fill l)
follows-session {n = n} {m = m} {k = k} e (fill-then {g = g} h f) = let l : n < g = omega arith in rw (ne_eqb g 0 (λ z. omega arith)) (fill-then l f)

pub follows : (n : ℕ) (bs : List ℕ) → Follows n (n + length bs) (parts_from n bs)
unfolding parts_from
follows n [] = rw add-zero none
follows n (b ∷ bs) = let e : n + suc (length bs) ≡ n + 1 + length bs = omega arith in rw e (go (eqb b 1) (follows (n + 1) bs))
  where
    go : (t : Bool) → Follows (n + 1) (n + 1 + length bs) (parts_from (n + 1) bs)
        → Follows n (n + 1 + length bs) (cond t (business n ∷ parts_from (n + 1) bs) (session n (parts_from (n + 1) bs)))
    go true f = one f
    go false f = follows-session refl f

-- ---- what follows rises, and its gap fills are apart

pub follows-up : {n m : ℕ} {ps : List Part} → Follows n m ps → n ≤ m
follows-up none = omega arith
follows-up (one f) = omega (arith, follows-up f)
follows-up (fill h) = omega arith
follows-up (fill-then h f) = omega (arith, follows-up f)

-- no part begins below the first number, and a gap fill has at least one number
first-from : {n m : ℕ} {ps : List Part} → Follows n m ps → (i : ℕ) → i < length ps → n ≤ (part_at ps i).first
first-from none i h = absurd (omega arith)
first-from (one f) zero h = omega arith
first-from (one f) (suc i) h = omega (arith, first-from f i (le_of_suc-le-suc h))
first-from (fill u) zero h = omega arith
first-from (fill u) (suc i) h = absurd (omega arith)
first-from (fill-then u f) zero h = omega arith
first-from (fill-then u f) (suc zero) h = omega arith
first-from (fill-then u f) (suc (suc i)) h = omega (arith, first-from f i (le_of_suc-le-suc (le_of_suc-le-suc h)))

new-past : {n m : ℕ} {ps : List Part} → Follows n m ps → (i : ℕ) → i < length ps → 0 < (part_at ps i).new → (part_at ps i).first < (part_at ps i).new
new-past none i h a = absurd (omega arith)
new-past (one f) zero h a = absurd (omega arith)
new-past (one f) (suc i) h a = new-past f i (le_of_suc-le-suc h) a
new-past (fill u) zero h a = u
new-past (fill u) (suc i) h a = absurd (omega arith)
new-past (fill-then u f) zero h a = u
new-past (fill-then u f) (suc zero) h a = absurd (omega arith)
new-past (fill-then u f) (suc (suc i)) h a = new-past f i (le_of_suc-le-suc (le_of_suc-le-suc h)) a

pub rising : {n m : ℕ} {ps : List Part} → Follows n m ps → Rising ps
rising none i j h l = absurd (omega arith)
rising (one f) i zero h l = absurd (omega arith)
rising (one f) zero (suc j) h l = omega (arith, first-from f j (le_of_suc-le-suc l))
rising (one f) (suc i) (suc j) h l = rising f i j (le_of_suc-le-suc h) (le_of_suc-le-suc l)
rising (fill u) i zero h l = absurd (omega arith)
rising (fill u) i (suc j) h l = absurd (omega arith)
rising (fill-then u f) i zero h l = absurd (omega arith)
rising (fill-then u f) zero (suc zero) h l = u
rising (fill-then u f) zero (suc (suc j)) h l = omega (arith, first-from f j (le_of_suc-le-suc (le_of_suc-le-suc l)))
rising (fill-then u f) (suc i) (suc zero) h l = absurd (omega arith)
rising (fill-then u f) (suc zero) (suc (suc j)) h l = omega (arith, first-from f j (le_of_suc-le-suc (le_of_suc-le-suc l)))
rising (fill-then u f) (suc (suc i)) (suc (suc j)) h l = rising f i j (le_of_suc-le-suc (le_of_suc-le-suc h)) (le_of_suc-le-suc (le_of_suc-le-suc l))

pub apart : {n m : ℕ} {ps : List Part} → Follows n m ps → Apart ps
apart none i j h l a b = absurd (omega arith)
apart (one f) i zero h l a b = absurd (omega arith)
apart (one f) zero (suc j) h l a b = absurd (omega arith)
apart (one f) (suc i) (suc j) h l a b = apart f i j (le_of_suc-le-suc h) (le_of_suc-le-suc l) a b
apart (fill u) i zero h l a b = absurd (omega arith)
apart (fill u) i (suc j) h l a b = absurd (omega arith)
apart (fill-then u f) i zero h l a b = absurd (omega arith)
apart (fill-then u f) i (suc zero) h l a b = absurd (omega arith)
apart (fill-then u f) zero (suc (suc j)) h l a b = omega (arith, first-from f j (le_of_suc-le-suc (le_of_suc-le-suc l)))
apart (fill-then u f) (suc zero) (suc (suc j)) h l a b = absurd (omega arith)
apart (fill-then u f) (suc (suc i)) (suc (suc j)) h l a b = apart f i j (le_of_suc-le-suc (le_of_suc-le-suc h)) (le_of_suc-le-suc (le_of_suc-le-suc l)) a b

-- ---- each number that the parts stand for has one part, and no other number has

lt-or-le : (a b : ℕ) → (a < b) ⊎ (b ≤ a)
lt-or-le a b = go (ltb a b) refl
  where
    go : (t : Bool) → ltb a b ≡ t → (a < b) ⊎ (b ≤ a)
    go true e = inl (ltb-true a b e)
    go false e = inr (ltb-false a b e)

module _ (n m k : ℕ) where
  below : k < n → within n m k ≡ false
  unfolding within
  below h = rw (lt-leb n k h)

  inside : n ≤ k → k < m → within n m k ≡ true
  unfolding within
  inside h l = rw (le-leb n k h, lt-ltb k m l)

  above : n ≤ k → m ≤ k → within n m k ≡ false
  unfolding within
  above h l = rw (le-leb n k h, le-ltb k m l)

within_none : (n k : ℕ) → within n n k ≡ false
within_none n k = go (lt-or-le k n)
  where
    go : (k < n) ⊎ (n ≤ k) → within n n k ≡ false
    go (inl a) = below n n k a
    go (inr a) = above n n k a a

within-joins : (n g m k : ℕ) → n ≤ g → g ≤ m → once (within n g k) + once (within g m k) ≡ once (within n m k)
within-joins n g m k h l = low (lt-or-le k n)
  where
    high : n ≤ k → g ≤ k → (k < m) ⊎ (m ≤ k) → once (within n g k) + once (within g m k) ≡ once (within n m k)
    high a b (inl c) = simp (above n g k a b, inside g m k b c, inside n m k a c)
    high a b (inr c) = simp (above n g k a b, above g m k b c, above n m k a c)

    middle : n ≤ k → (k < g) ⊎ (g ≤ k) → once (within n g k) + once (within g m k) ≡ once (within n m k)
    middle a (inl b) = simp (inside n g k a b, below g m k b, inside n m k a (omega arith))
    middle a (inr b) = high a b (lt-or-le k m)

    low : (k < n) ⊎ (n ≤ k) → once (within n g k) + once (within g m k) ≡ once (within n m k)
    low (inl a) = simp (below n g k a, below g m k (omega arith), below n m k a)
    low (inr a) = middle a (lt-or-le k g)

-- a part stands for each of its numbers once, in one of the two ways
one-tally : (n k : ℕ) → once (names k (business n)) + once (covers k (business n)) ≡ once (within n (n + 1) k)
unfolding names covers
one-tally n k = low (lt-or-le k n)
  where
    high : n ≤ k → (k < n + 1) ⊎ (n + 1 ≤ k) → once (eqb n k) + once (within n 0 k) ≡ once (within n (n + 1) k)
    high a (inl b) = simp (eq-eqb n k (omega arith), above n 0 k a (omega arith), inside n (n + 1) k a b)
    high a (inr b) = simp (ne_eqb n k (λ e. omega arith), above n 0 k a (omega arith), above n (n + 1) k a b)

    low : (k < n) ⊎ (n ≤ k) → once (eqb n k) + once (within n 0 k) ≡ once (within n (n + 1) k)
    low (inl a) = simp (ne_eqb n k (λ e. omega arith), below n 0 k a, below n (n + 1) k a)
    low (inr a) = high a (lt-or-le k (n + 1))

fill-tally : (n g k : ℕ) → n < g → once (names k (gap_fill n g)) + once (covers k (gap_fill n g)) ≡ once (within n g k)
unfolding names covers
fill-tally n g k h = simp (ne_eqb g 0 (λ e. omega arith), zero-add)

-- n, .., m - 1 are named or covered, each once in all, and no other number is
pub tally : {n m : ℕ} {ps : List Part} → Follows n m ps → (k : ℕ) → times (names k) ps + times (covers k) ps ≡ once (within n m k)
unfolding times
tally {n = n} none k = rw (within_none n k)
tally {n = n} {m = m} (one f) k = omega (arith, tally f k, one-tally n k, within-joins n (n + 1) m k (omega arith) (follows-up f))
tally {n = n} {m = m} (fill h) k = omega (arith, fill-tally n m k h)
tally {n = n} {m = m} (fill-then {g = g} h f) k =
    omega (arith, tally f k, fill-tally n g k h, one-tally g k, within-joins g (g + 1) m k (omega arith) (follows-up f), within-joins n g m k (omega arith) (omega (arith, follows-up f)))

-- ---- a gap fill is a longest run: the number before it and the number after it are not covered

business-covers-none : (n k : ℕ) → covers k (business n) ≡ false
unfolding covers
business-covers-none n k = go (lt-or-le k n)
  where
    go : (k < n) ⊎ (n ≤ k) → within n 0 k ≡ false
    go (inl a) = below n 0 k a
    go (inr a) = above n 0 k a (omega arith)

fill-ends : (n g k : ℕ) → n < g → g ≤ k → covers k (gap_fill n g) ≡ false
unfolding covers
fill-ends n g k u h = above n g k (omega arith) h

covered-below : {n m : ℕ} {ps : List Part} → Follows n m ps → (k : ℕ) → k < n → times (covers k) ps ≡ 0
covered-below {n = n} {m = m} f k h = omega (arith, tally f k, ap once (below n m k h))

one-uncovered : (n k : ℕ) (ps : List Part) → times (covers k) ps ≡ 0 → times (covers k) (business n ∷ ps) ≡ 0
unfolding times
one-uncovered n k ps h = rw (business-covers-none n k, h)

fill-uncovered : (n g k : ℕ) (ps : List Part) → n < g → g ≤ k → times (covers k) ps ≡ 0 → times (covers k) (gap_fill n g ∷ ps) ≡ 0
unfolding times
fill-uncovered n g k ps u l h = rw (fill-ends n g k u l, h)

pub uncovered-after : {n m : ℕ} {ps : List Part} → Follows n m ps → (i : ℕ) → i < length ps → 0 < (part_at ps i).new → times (covers (part_at ps i).new) ps ≡ 0
unfolding times
uncovered-after none i h a = absurd (omega arith)
uncovered-after (one f) zero h a = absurd (omega arith)
uncovered-after {n = n} (one {ps = ps} f) (suc i) h a = one-uncovered n (part_at ps i).new ps (uncovered-after f i (le_of_suc-le-suc h) a)
uncovered-after {n = n} {m = m} (fill u) zero h a = fill-uncovered n m m [] u (omega arith) refl
uncovered-after (fill u) (suc i) h a = absurd (omega arith)
uncovered-after {n = n} (fill-then {g = g} {ps = ps} u f) zero h a =
    fill-uncovered n g g (business g ∷ ps) u (omega arith) (one-uncovered g g ps (covered-below f g (omega arith)))
uncovered-after (fill-then u f) (suc zero) h a = absurd (omega arith)
uncovered-after {n = n} (fill-then {g = g} {ps = ps} u f) (suc (suc i)) h a =
    let l = le_of_suc-le-suc (le_of_suc-le-suc h) in
    let k = (part_at ps i).new in
    fill-uncovered n g k (business g ∷ ps) u (omega (arith, first-from f i l, new-past f i l a)) (one-uncovered g k ps (uncovered-after f i l a))

pub uncovered-before : {n m : ℕ} {ps : List Part} → Follows n m ps → 1 ≤ n → (i : ℕ) → i < length ps → 0 < (part_at ps i).new → times (covers ((part_at ps i).first - 1)) ps ≡ 0
uncovered-before none o i h a = absurd (omega arith)
uncovered-before (one f) o zero h a = absurd (omega arith)
uncovered-before {n = n} (one {ps = ps} f) o (suc i) h a =
    one-uncovered n ((part_at ps i).first - 1) ps (uncovered-before f (omega arith) i (le_of_suc-le-suc h) a)
uncovered-before {n = n} (fill u) o zero h a = covered-below (fill u) (n - 1) (omega arith)
uncovered-before (fill u) o (suc i) h a = absurd (omega arith)
uncovered-before {n = n} (fill-then u f) o zero h a = covered-below (fill-then u f) (n - 1) (omega arith)
uncovered-before (fill-then u f) o (suc zero) h a = absurd (omega arith)
uncovered-before {n = n} (fill-then {g = g} {ps = ps} u f) o (suc (suc i)) h a =
    let l = le_of_suc-le-suc (le_of_suc-le-suc h) in
    let k = (part_at ps i).first - 1 in
    fill-uncovered n g k (business g ∷ ps) u (omega (arith, first-from f i l)) (one-uncovered g k ps (uncovered-before f (omega arith) i l a))

-- ---- a session number leaves what is named as it is, so that a number is named where its mark is 1

named-session : (k n : ℕ) (ps : List Part) → times (names k) (session n ps) ≡ times (names k) ps
unfolding session times names
named-session k n [] = simp (ne_eqb (n + 1) 0 (λ e. omega arith))
named-session k n (p ∷ ps) = go (eqb p.new 0) refl
  where
    go : (t : Bool) → eqb p.new 0 ≡ t
        → times (names k) (cond t (gap_fill n (n + 1) ∷ p ∷ ps) (gap_fill n p.new ∷ ps)) ≡ once (cond t (eqb p.first k) false) + times (names k) ps
    go true e = simp (ne_eqb (n + 1) 0 (λ z. omega arith), e, zero-add)
    go false e = simp (e, zero-add)

pub named-below : (k n : ℕ) (bs : List ℕ) → k < n → times (names k) (parts_from n bs) ≡ 0
named-below k n bs h = omega (arith, tally (follows n bs) k, ap once (below n (n + length bs) k h))

named-first : (n k : ℕ) (bs : List ℕ) (t : Bool) → k ≡ n
    → times (names k) (cond t (business n ∷ parts_from (n + 1) bs) (session n (parts_from (n + 1) bs))) ≡ once t
unfolding times names
named-first n k bs true e = rw (eq-eqb n k (sym e), named-below k (n + 1) bs (omega arith))
named-first n k bs false e = named-session k n (parts_from (n + 1) bs) ∙ named-below k (n + 1) bs (omega arith)

named-later : (n k : ℕ) (bs : List ℕ) (t : Bool) → n < k
    → times (names k) (cond t (business n ∷ parts_from (n + 1) bs) (session n (parts_from (n + 1) bs))) ≡ times (names k) (parts_from (n + 1) bs)
unfolding times names
named-later n k bs true h = rw (ne_eqb n k (λ e. omega arith), zero-add)
named-later n k bs false h = named-session k n (parts_from (n + 1) bs)

pub named-at : (i n : ℕ) (bs : List ℕ) → times (names (n + i)) (parts_from n bs) ≡ once (eqb (get_or bs i 0) 1)
unfolding parts_from times
named-at i n [] = refl
named-at zero n (b ∷ bs) = named-first n (n + zero) bs (eqb b 1) (add-zero n)
named-at (suc i) n (b ∷ bs) =
    let e : n + suc i ≡ n + 1 + i = omega arith in
    named-later n (n + suc i) bs (eqb b 1) (omega arith) ∙ ap (λ (k : ℕ). times (names k) (parts_from (n + 1) bs)) e ∙ named-at i (n + 1) bs

-- ---- the plan of a request

marked-cons : (b : ℕ) (l : List ℕ) → all_marked (b ∷ l) ≡ true → (b ≤ 1) × (all_marked l ≡ true)
unfolding all_marked
marked-cons b l a = go (leb b 1) refl a
  where
    go : (t : Bool) → leb b 1 ≡ t → cond t (all_marked l) false ≡ true → (b ≤ 1) × (all_marked l ≡ true)
    go true f a = (leb-true b 1 f, a)
    go false f a = let z : ◌≡◌ {A = ℕ} 0 1 = cc in absurd (omega arith)

-- a mark is 1 or 0
mark-tally : (b : ℕ) → b ≤ 1 → once (eqb b 1) + once (eqb b 0) ≡ 1
mark-tally zero h = refl
mark-tally (suc zero) h = refl
mark-tally (suc (suc b)) h = absurd (omega arith)

marked-at : (l : List ℕ) (i : ℕ) → all_marked l ≡ true → once (eqb (get_or l i 0) 1) + once (eqb (get_or l i 0) 0) ≡ 1
marked-at [] i a = refl
marked-at (b ∷ l) zero a = mark-tally b (marked-cons b l a).0
marked-at (b ∷ l) (suc i) a = marked-at l i (marked-cons b l a).1

-- the mark of k, where the numbers before s and past m are left out
mark-from : (l : List ℕ) (s m k : ℕ) → 1 ≤ s → s ≤ k → k ≤ m → get_or (drop (s - 1) (take m l)) (k - s) 0 ≡ get_or l (k - 1) 0
mark-from l s m k o h u =
    let e : s - 1 + (k - s) ≡ k - 1 = omega arith in
    get_or-drop (s - 1) (take m l) (k - s) 0 ∙ ap (λ (i : ℕ). get_or (take m l) i 0) e ∙ get_or-take m l (k - 1) 0 (omega arith)

mark-past : (l : List ℕ) (s m k : ℕ) → 1 ≤ s → s ≤ k → m < k → m ≤ length l → get_or (drop (s - 1) (take m l)) (k - s) 0 ≡ 0
mark-past l s m k o h u v =
    let w : length (drop (s - 1) (take m l)) ≤ k - s = omega (arith, length-slice (s - 1) m l v) in
    get_or-eq_default (drop (s - 1) (take m l)) 0 w

none-once : (t : Bool) → once t ≡ 0 → t ≡ false
none-once true z = absurd (omega arith)
none-once false z = refl

-- the parts from s to e follow, whatever the list's length and bytes
pub parts-follow : (list : List ℕ) (s e : ℕ) → 1 ≤ s → s ≤ last_number list e → Follows s (last_number list e + 1) (parts_of list s e)
unfolding parts_of
parts-follow list s e h l =
    let n : s + length (drop (s - 1) (take (last_number list e) list)) ≡ last_number list e + 1 =
    omega (arith, length-slice (s - 1) (last_number list e) list (last_within list e)) in
    subst (λ (m : ℕ). Follows s m (parts_of list s e)) n (follows s (drop (s - 1) (take (last_number list e) list)))

module _ (list : List ℕ) (s e : ℕ) (q : is_request list s e ≡ true) where
  pub plan-follows : Follows s (last_number list e + 1) (parts_of list s e)
  plan-follows = let r : Request list s e = requested list s e q in parts-follow list s e r.from_one r.up-to-last

  -- of two parts, the later begins at a higher number
  pub plan-rising : (i j : ℕ) → i < j → j < length (parts_of list s e) → (get_or (parts_of list s e) i (business 0)).first < (get_or (parts_of list s e) j (business 0)).first
  plan-rising = rising plan-follows

  -- of two gap fills, the later begins past the number that follows the earlier
  pub plan-apart : (i j : ℕ) → i < j → j < length (parts_of list s e) → 0 < (get_or (parts_of list s e) i (business 0)).new
      → 0 < (get_or (parts_of list s e) j (business 0)).new → (get_or (parts_of list s e) i (business 0)).new < (get_or (parts_of list s e) j (business 0)).first
  plan-apart = apart plan-follows

  -- the plan names the business numbers from s to e, each once, and no other number
  pub business-once : (k : ℕ) → times (names k) (parts_of list s e) ≡ cond (is_marked 1 list s e k) 1 0
  unfolding parts_of is_marked
  business-once k = low (lt-or-le k s)
    where
      marks : List ℕ
      marks = drop (s - 1) (take (last_number list e) list)

      o : 1 ≤ s
      o = (requested list s e q).from_one

      from : s ≤ k → times (names k) (parts_from s marks) ≡ once (eqb (get_or marks (k - s) 0) 1)
      from a = let n : s + (k - s) ≡ k = omega arith in subst (λ (x : ℕ). times (names x) (parts_from s marks) ≡ once (eqb (get_or marks (k - s) 0) 1)) n (named-at (k - s) s marks)

      high : s ≤ k → (k < last_number list e + 1) ⊎ (last_number list e + 1 ≤ k) → times (names k) (parts_from s marks) ≡ once (cond (within s (last_number list e + 1) k) (eqb (get_or list (k - 1) 0) 1) false)
      high a (inl b) = from a ∙ ap (λ (x : ℕ). once (eqb x 1)) (mark-from list s (last_number list e) k o a (omega arith)) ∙ simp (inside s (last_number list e + 1) k a b)
      high a (inr b) = from a ∙ ap (λ (x : ℕ). once (eqb x 1)) (mark-past list s (last_number list e) k o a (omega arith) (last_within list e)) ∙ simp (above s (last_number list e + 1) k a b)

      low : (k < s) ⊎ (s ≤ k) → times (names k) (parts_from s marks) ≡ once (cond (within s (last_number list e + 1) k) (eqb (get_or list (k - 1) 0) 1) false)
      low (inl a) = named-below k s marks a ∙ simp (below s (last_number list e + 1) k a)
      low (inr a) = high a (lt-or-le k (last_number list e + 1))

  -- its gap fills cover the session numbers from s to e, each by one, and no other number
  pub session-once : (k : ℕ) → times (covers k) (parts_of list s e) ≡ cond (is_marked 0 list s e k) 1 0
  unfolding is_marked
  session-once k = go (within s (last_number list e + 1) k) (tally plan-follows k) (business-once k)
    where
      go : (t : Bool) → times (names k) (parts_of list s e) + times (covers k) (parts_of list s e) ≡ once t
          → times (names k) (parts_of list s e) ≡ once (cond t (eqb (get_or list (k - 1) 0) 1) false)
          → times (covers k) (parts_of list s e) ≡ once (cond t (eqb (get_or list (k - 1) 0) 0) false)
      go true a b = omega (arith, a, b, marked-at list (k - 1) (requested list s e q).marked)
      go false a b = omega (arith, a, b)

  -- a gap fill is a longest run: neither the number before it nor the one after it is a session number from s to e
  pub plan-longest : (i : ℕ) → i < length (parts_of list s e) → 0 < (get_or (parts_of list s e) i (business 0)).new
      → (is_marked 0 list s e ((get_or (parts_of list s e) i (business 0)).first - 1) ≡ false) × (is_marked 0 list s e (get_or (parts_of list s e) i (business 0)).new ≡ false)
  plan-longest i h a =
      let p = part_at (parts_of list s e) i in (
        none-once _ (sym (session-once (p.first - 1)) ∙ uncovered-before plan-follows (requested list s e q).from_one i h a),
        none-once _ (sym (session-once p.new) ∙ uncovered-after plan-follows i h a),
      )
