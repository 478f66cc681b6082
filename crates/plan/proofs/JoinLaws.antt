-- What joins two plans: the parts of a list that is cut in two are the parts of its halves joined, and which part stands on either side of the cut.
use Prim.Native.Nat.{ℕ, suc, ◌+◌, ◌<◌}
use mathlib.Core.Path.{◌≡◌, refl, sym, ap, subst, ◌∙◌}
use mathlib.Core.Bool.{Bool, true, false, cond, ◌&&◌, and-false}
use mathlib.Core.List.{List, [], ◌∷◌, ◌++◌, append_assoc}
use native.Mathlib.Omega.{arith}
use native.Mathlib.Nat.{add-zero}
use lib.Dec.{eqb, ltb}
use lib.ListN.{length, length-append}
use borrow.Author.Tests.{eq-eqb, ne_eqb, lt-ltb, le-ltb}
use Rattle.plan.specs.Plan.{Part, business, gap_fill, session, parts_from}
use Rattle.plan.specs.Join.{touch, before, join}
use Rattle.plan.proofs.PlanShape.{Follows, none, one, fill, fill-then, follows}

-- ---- what stands at the seam

before-business : (p : Part) (k : ℕ) (qs : List Part) → before p (business k ∷ qs) ≡ p ∷ business k ∷ qs
unfolding before touch
before-business p k qs = rw (le-ltb k 0 (omega arith), and-false (ltb p.first p.new && eqb p.new k)) refl

business-before : (k : ℕ) (qs : List Part) → before (business k) qs ≡ business k ∷ qs
unfolding before touch
business-before k [] = refl
business-before k (q ∷ qs) = rw (le-ltb k 0 (omega arith)) refl

pub fill-before : (a b k c : ℕ) (qs : List Part) → b ≡ k → a < b → k < c → before (gap_fill a b) (gap_fill k c ∷ qs) ≡ gap_fill a c ∷ qs
unfolding before touch
fill-before a b k c qs e h l = rw (lt-ltb a b h, eq-eqb b k e, lt-ltb k c l) refl

-- ---- the plan of a list that is cut in two is the two plans joined

session-fill : (n k m : ℕ) (qs : List Part) → k < m → session n (gap_fill k m ∷ qs) ≡ gap_fill n m ∷ qs
unfolding session
session-fill n k m qs h = rw (ne_eqb m 0 (λ z. omega arith)) refl

session-before : (n : ℕ) {k e : ℕ} {qs : List Part} → k ≡ n + 1 → Follows k e qs → session n qs ≡ before (gap_fill n (n + 1)) qs
unfolding session before
session-before n q none = refl
session-before n {k = k} q (one {ps = ps} f) = sym (before-business (gap_fill n (n + 1)) k ps)
session-before n {k = k} {e = e} q (fill h) = session-fill n k e [] h ∙ sym (fill-before n (n + 1) k e [] (sym q) (omega arith) h)
session-before n {k = k} q (fill-then {g = g} {ps = ps} h f) =
    session-fill n k g (business g ∷ ps) h ∙ sym (fill-before n (n + 1) k g (business g ∷ ps) (sym q) (omega arith) h)

session-fills : {n k m e : ℕ} {qs : List Part} → n < k → k < m → Follows m e qs → session n (before (gap_fill k m) qs) ≡ before (gap_fill n m) qs
unfolding before
session-fills {n = n} {k = k} {m = m} l h none = session-fill n k m [] h
session-fills {n = n} {k = k} {m = m} l h (one {ps = ps} f) =
    ap (session n) (before-business (gap_fill k m) m ps) ∙ session-fill n k m (business m ∷ ps) h ∙ sym (before-business (gap_fill n m) m ps)
session-fills {n = n} {k = k} {m = m} {e = e} l h (fill i) =
    ap (session n) (fill-before k m m e [] refl h i) ∙ session-fill n k e [] (omega arith) ∙ sym (fill-before n m m e [] refl (omega arith) i)
session-fills {n = n} {k = k} {m = m} l h (fill-then {g = g} {ps = ps} i f) =
    ap (session n) (fill-before k m m g (business g ∷ ps) refl h i) ∙ session-fill n k g (business g ∷ ps) (omega arith)
    ∙ sym (fill-before n m m g (business g ∷ ps) refl (omega arith) i)

business-join : (n : ℕ) (ps qs : List Part) → business n ∷ join ps qs ≡ join (business n ∷ ps) qs
unfolding join
business-join n [] qs = sym (business-before n qs)
business-join n (p ∷ ps) qs = refl

session-join : (n : ℕ) {k m e : ℕ} {ps qs : List Part} → k ≡ n + 1 → Follows k m ps → Follows m e qs → session n (join ps qs) ≡ join (session n ps) qs
unfolding join session
session-join n q none g = session-before n q g
session-join n {k = k} {qs = qs} q (one {ps = ps} f) g = ap (session n) (sym (business-join k ps qs)) ∙ ap (λ (x : List Part). gap_fill n (n + 1) ∷ x) (business-join k ps qs)
session-join n {k = k} {m = m} {qs = qs} q (fill h) g =
    session-fills (omega arith) h g ∙ ap (λ (x : List Part). join x qs) (sym (session-fill n k m [] h))
session-join n {k = k} {qs = qs} q (fill-then {g = x} {ps = ps} h f) g =
    session-fill n k x (join (business x ∷ ps) qs) h ∙ ap (λ (y : List Part). join y qs) (sym (session-fill n k x (business x ∷ ps) h))

pub parts-joined : (n : ℕ) (xs ys : List ℕ) → parts_from n (xs ++ ys) ≡ join (parts_from n xs) (parts_from (n + length xs) ys)
unfolding parts_from join
parts-joined n [] ys = rw add-zero refl
parts-joined n (x ∷ xs) ys =
    let e : n + suc (length xs) ≡ n + 1 + length xs = omega arith in
    rw (e, parts-joined (n + 1) xs ys) (go (eqb x 1))
  where
    ps : List Part
    ps = parts_from (n + 1) xs

    qs : List Part
    qs = parts_from (n + 1 + length xs) ys

    go : (t : Bool) → cond t (business n ∷ join ps qs) (session n (join ps qs)) ≡ join (cond t (business n ∷ ps) (session n ps)) qs
    go true = business-join n ps qs
    go false = session-join n refl (follows (n + 1) xs) (follows (n + 1 + length xs) ys)

-- a plan that has a last part
pub last-before : (ps : List Part) (p : Part) (qs : List Part) → join (ps ++ (p ∷ [])) qs ≡ ps ++ before p qs
unfolding join
last-before [] p qs = refl
last-before (r ∷ []) p qs = refl
last-before (r ∷ t ∷ ps) p qs = ap (λ (x : List Part). r ∷ x) (last-before (t ∷ ps) p qs)

join-business : (ps : List Part) (k : ℕ) (qs : List Part) → join ps (business k ∷ qs) ≡ ps ++ (business k ∷ qs)
unfolding join
join-business [] k qs = refl
join-business (p ∷ []) k qs = before-business p k qs
join-business (p ∷ r ∷ ps) k qs = ap (λ (x : List Part). p ∷ x) (join-business (r ∷ ps) k qs)

-- ---- a session number at the end of a plan, and at its front

-- parts that end with a gap fill to n, and parts that begin with one from n
pub record EndsInFill (ps : List Part) (n : ℕ) : Type 0 where
  pub front : List Part
  pub a : ℕ
  pub is : ps ≡ front ++ (gap_fill a n ∷ [])
  pub up : a < n

pub record BeginsWithFill (ps : List Part) (n : ℕ) : Type 0 where
  pub c : ℕ
  pub rest : List Part
  pub is : ps ≡ gap_fill n c ∷ rest
  pub up : n < c

session-begins : {n k m : ℕ} {ps : List Part} → k ≡ n + 1 → Follows k m ps → BeginsWithFill (session n ps) n
unfolding session
session-begins {n = n} q none = record { c = n + 1; rest = []; is = refl; up = omega arith }
session-begins {n = n} {k = k} q (one {ps = ps} f) = record { c = n + 1; rest = business k ∷ ps; is = refl; up = omega arith }
session-begins {n = n} {k = k} {m = m} q (fill h) = record { c = m; rest = []; is = session-fill n k m [] h; up = omega arith }
session-begins {n = n} {k = k} q (fill-then {g = g} {ps = ps} h f) =
    record { c = g; rest = business g ∷ ps; is = session-fill n k g (business g ∷ ps) h; up = omega arith }

session-ends : {n k : ℕ} {ps : List Part} → Follows n k ps → EndsInFill (join ps (gap_fill k (k + 1) ∷ [])) (k + 1)
unfolding join
session-ends {k = k} none = record { front = []; a = k; is = refl; up = omega arith }
session-ends {n = n} {k = k} (one {ps = ps} f) =
    let g = session-ends f in
    record { front = business n ∷ g.front; a = g.a; is = sym (business-join n ps (gap_fill k (k + 1) ∷ [])) ∙ ap (λ (x : List Part). business n ∷ x) g.is; up = g.up }
session-ends {n = n} {k = k} (fill h) = record { front = []; a = n; is = fill-before n k k (k + 1) [] refl h (omega arith); up = omega arith }
session-ends {n = n} {k = k} (fill-then {g = m} {ps = ps} h f) =
    let g = session-ends f in
    record {
      front = gap_fill n m ∷ business m ∷ g.front;
      a = g.a;
      is = ap (λ (x : List Part). gap_fill n m ∷ x) (sym (business-join m ps (gap_fill k (k + 1) ∷ [])) ∙ ap (λ (x : List Part). business m ∷ x) g.is);
      up = g.up;
    }

-- ---- a list that is cut behind the mark x

module _ (n : ℕ) (xs : List ℕ) (x y : ℕ) (ys : List ℕ) where
  -- the numbers of the two marks
  abbrev k : ℕ
  k = n + length xs

  abbrev j : ℕ
  j = n + length (xs ++ (x ∷ []))

  abbrev former : List Part
  former = parts_from n (xs ++ (x ∷ []))

  abbrev latter : List Part
  latter = parts_from j (y ∷ ys)

  next : j ≡ k + 1
  next = omega (arith, length-append xs (x ∷ []))

  pub after-business : x ≡ 1 → join former latter ≡ former ++ latter
  unfolding parts_from
  after-business e =
      let z : parts_from k (x ∷ []) ≡ business k ∷ [] = rw (eq-eqb x 1 e) refl in
      let o : former ≡ parts_from n xs ++ (business k ∷ []) =
      parts-joined n xs (x ∷ []) ∙ ap (join (parts_from n xs)) z ∙ join-business (parts_from n xs) k [] in
      ap (λ (ps : List Part). join ps latter) o ∙ last-before (parts_from n xs) (business k) latter
      ∙ ap (λ (ps : List Part). parts_from n xs ++ ps) (business-before k latter)
      ∙ sym (ap (λ (ps : List Part). ps ++ latter) o ∙ append_assoc (parts_from n xs) (business k ∷ []) latter)

  pub business-after : y ≡ 1 → join former latter ≡ former ++ latter
  unfolding parts_from
  business-after e = rw (eq-eqb y 1 e) (join-business former j (parts_from (j + 1) ys))

  pub ends : (x ≡ 1 → ⊥) → EndsInFill former j
  unfolding parts_from session
  ends h =
      let z : parts_from k (x ∷ []) ≡ gap_fill k (k + 1) ∷ [] = rw (ne_eqb x 1 h) refl in
      subst (EndsInFill former) (sym next) (subst (λ (ps : List Part). EndsInFill ps (k + 1)) (sym (parts-joined n xs (x ∷ []) ∙ ap (join (parts_from n xs)) z)) (session-ends (follows n xs)))

  pub begins : (y ≡ 1 → ⊥) → BeginsWithFill latter j
  unfolding parts_from
  begins h = rw (ne_eqb y 1 h) (session-begins refl (follows (j + 1) ys))
