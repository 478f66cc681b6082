-- Plans that join (document 02, item 12).
--
-- Supposed: s is at least 1, m lies from s to e - 1, and e within the list. Shown: what `plan` writes for s to m, followed by what it writes for m + 1
-- to e, is what it writes for s to e exactly when m and m + 1 are not both session numbers (`plans-follow`). Where both are, the one plan ends with a
-- gap fill that touches the one with which the other begins, and the whole has one gap fill in their place (`plans-touch`). Joined they are the whole
-- in either case (`plans-joined`). With an End of 0 or past the list, for the right-hand plan and the whole, all this holds (`open-..`). And where
-- the request for the whole is not refused, `join`, given what `plan` writes for the halves, answers and writes what `plan` does for the whole
-- (`join-plans`).
use Prim.Native.Nat.{ℕ, suc, ◌+◌, ◌-◌, ◌≤◌, ◌<◌}
use mathlib.Core.Path.{◌≡◌, refl, sym, ap, ap₂, ◌∙◌}
use mathlib.Core.Bool.{Bool, true, false, ◌&&◌, ◌||◌, and-false, true≢false}
use mathlib.Core.List.{List, [], ◌∷◌, ◌++◌}
use mathlib.Core.Logic.{◌↔◌, ◌⊎◌, inl, inr}
use native.Mathlib.Omega.{arith}
use native.Mathlib.Nat.{min-eq_left, min-eq_right, min-le_left}
use lib.Dec.{eqb, leb}
use lib.ListN.{length, get_or, take, drop, length-append, length-drop, take-append-drop}
use lib.Seq.{take-suc, drop-cons, drop-append-le, length-take-le, get_or-take, take-take}
use borrow.Author.Tests.{eq-eqb, ne_eqb, eqb-true, eqb-false, le-leb}
use Rattle.wire.proofs.TestLaws.{either}
use Rattle.plan.specs.Plan.{Part, gap_fill, parts_from, last_number, parts_of, is_request, pairs, answered, paired_in, plan_of, planned}
use Rattle.plan.specs.Join.{join, is_pairs, joined, join_of, joined_in, plan_pairs, is_session, both_session, Touching}
use Rattle.plan.proofs.PlanLaws.{requested, last_within}
use Rattle.plan.proofs.JoinLaws.{fill-before, parts-joined, last-before, EndsInFill, BeginsWithFill, after-business, business-after, ends, begins}
use Rattle.plan.proofs.JoinPairs.{parts_again, pairs-append, pairs-whole}

-- End given as a number, and an End of 0 or past the list
last-given : (l : List ℕ) (e : ℕ) → 1 ≤ e → e ≤ length l → last_number l e ≡ e
unfolding last_number
last-given l e h k = rw (ne_eqb e 0 (λ z. omega arith), min-eq_left k) refl

last-open : (l : List ℕ) (e : ℕ) → (e ≡ 0) ⊎ (length l ≤ e) → last_number l e ≡ length l
unfolding last_number
last-open l e (inl z) = rw (eq-eqb e 0 z) refl
last-open l e (inr h) = either (λ (x : ℕ). x ≡ length l) (eqb e 0) (λ t. refl) (λ t. min-eq_right h)

-- two plans that touch have a pair more than the whole
apart-lengths : {x y w : List ℕ} → Touching x y w → x ++ y ≡ w → ⊥
apart-lengths {x = x} {y = y} {w = w} t q =
    let a = length-append x y in
    let b : length x ≡ length t.front + 2 = ap length t.one-is ∙ length-append t.front (t.a ∷ t.b ∷ []) in
    let c : length y ≡ suc (suc (length t.rest)) = ap length t.other-is in
    let d : length w ≡ length t.front + suc (suc (length t.rest)) = ap length t.whole_is ∙ length-append t.front (t.a ∷ t.c ∷ t.rest) in
    omega (arith, ap length q)

last-most : (l : List ℕ) (e : ℕ) → (e ≡ 0 → ⊥) → last_number l e ≤ e
unfolding last_number
last-most l e n = rw (ne_eqb e 0 n) (min-le_left e (length l))

-- both are session numbers where neither is business
module _ (l : List ℕ) (m : ℕ) where
  both_so : eqb (get_or l (m - 1) 0) 1 ≡ false → eqb (get_or l (m + 1 - 1) 0) 1 ≡ false → both_session l m ≡ true
  unfolding is_session
  both_so p q = simp (p, q)

  first-not : eqb (get_or l (m - 1) 0) 1 ≡ true → both_session l m ≡ false
  unfolding is_session
  first-not p = rw p refl

  second-not : eqb (get_or l (m + 1 - 1) 0) 1 ≡ true → both_session l m ≡ false
  unfolding is_session
  second-not q = rw (q, and-false (is_session l m)) refl

-- ---- the list is cut behind number m, which stands at index m - 1

module _ (l : List ℕ) (s m e : ℕ) (h : 1 ≤ s) (i : s ≤ m) (j : m < last_number l e) where
  abbrev z : ℕ
  z = last_number l e

  k : z ≤ length l
  k = last_within l e

  abbrev mark_of : ℕ → ℕ
  mark_of n = get_or l (n - 1) 0

  abbrev earlier : List ℕ
  earlier = drop (s - 1) (take (m - 1) l)

  abbrev later : List ℕ
  later = drop (suc m) (take z l)

  abbrev former : List ℕ
  former = earlier ++ (mark_of m ∷ [])

  cut-former : drop (s - 1) (take m l) ≡ former
  cut-former =
      let p : m ≡ suc (m - 1) = omega arith in
      let n : length (take (m - 1) l) ≡ m - 1 = length-take-le (m - 1) l (omega (arith, k)) in
      ap (λ (x : ℕ). drop (s - 1) (take x l)) p ∙ ap (drop (s - 1)) (take-suc l (m - 1) 0 (omega (arith, k)))
      ∙ drop-append-le (s - 1) (take (m - 1) l) (mark_of m ∷ []) (omega (arith, k))

  cut-latter : drop m (take z l) ≡ mark_of (m + 1) ∷ later
  cut-latter =
      let n : length (take z l) ≡ z = length-take-le z l k in
      let p : m + 1 - 1 ≡ m = omega arith in
      drop-cons (take z l) m 0 (omega (arith, k)) ∙ ap (λ (x : ℕ). x ∷ later) (get_or-take z l m 0 j ∙ ap (λ (x : ℕ). get_or l x 0) (sym p))

  cut-whole : drop (s - 1) (take z l) ≡ drop (s - 1) (take m l) ++ drop m (take z l)
  cut-whole =
      let n : length (take m l) ≡ m = length-take-le m l (omega (arith, k)) in
      ap (drop (s - 1)) (sym (take-append-drop m (take z l)) ∙ ap (λ (x : List ℕ). x ++ drop m (take z l)) (take-take m z l (omega (arith, k))))
      ∙ drop-append-le (s - 1) (take m l) (drop m (take z l)) (omega (arith, k))

  abbrev one : List Part
  one = parts_from s former

  abbrev other : List Part
  other = parts_from (s + length former) (mark_of (m + 1) ∷ later)

  one-is : parts_of l s m ≡ one
  unfolding parts_of
  one-is = ap (λ (x : ℕ). parts_from s (drop (s - 1) (take x l))) (last-given l m (omega (arith, k)) (omega (arith, k))) ∙ ap (parts_from s) cut-former

  other-is : parts_of l (m + 1) e ≡ other
  unfolding parts_of
  other-is =
      let n : length (take (m - 1) l) ≡ m - 1 = length-take-le (m - 1) l (omega (arith, k)) in
      let c : s + length former ≡ m + 1 = omega (arith, length-append earlier (mark_of m ∷ []), length-drop (s - 1) (take (m - 1) l)) in
      let p : m + 1 - 1 ≡ m = omega arith in
      ap (λ (x : ℕ). parts_from (m + 1) (drop x (take z l))) p ∙ ap₂ parts_from (sym c) cut-latter

  whole_is : parts_of l s e ≡ join one other
  unfolding parts_of
  whole_is =
      ap (parts_from s) (cut-whole ∙ ap₂ (λ (x y : List ℕ). x ++ y) cut-former cut-latter) ∙ parts-joined s former (mark_of (m + 1) ∷ later)

  joined-parts : join (parts_of l s m) (parts_of l (m + 1) e) ≡ parts_of l s e
  joined-parts = ap₂ join one-is other-is ∙ sym whole_is

  -- joined they are the whole
  joined-last : pairs (joined (plan_pairs l s m) (plan_pairs l (m + 1) e)) ≡ plan_pairs l s e
  joined-last = ap pairs (ap₂ join (parts_again (parts_of l s m)) (parts_again (parts_of l (m + 1) e)) ∙ joined-parts)

  -- where one of the two numbers is business, they follow each other
  follow : join one other ≡ one ++ other → plan_pairs l s m ++ plan_pairs l (m + 1) e ≡ plan_pairs l s e
  follow q =
      sym (pairs-append (parts_of l s m) (parts_of l (m + 1) e))
      ∙ ap pairs (ap₂ (λ (x y : List Part). x ++ y) one-is other-is ∙ sym q ∙ sym whole_is)

  not-both : both_session l m ≡ false → plan_pairs l s m ++ plan_pairs l (m + 1) e ≡ plan_pairs l s e
  not-both b = go (eqb (mark_of m) 1) refl (eqb (mark_of (m + 1)) 1) refl
    where
      go : (t : Bool) → eqb (mark_of m) 1 ≡ t → (u : Bool) → eqb (mark_of (m + 1)) 1 ≡ u → plan_pairs l s m ++ plan_pairs l (m + 1) e ≡ plan_pairs l s e
      go true p u q = follow (after-business s earlier (mark_of m) (mark_of (m + 1)) later (eqb-true (mark_of m) 1 p))
      go false p true q = follow (business-after s earlier (mark_of m) (mark_of (m + 1)) later (eqb-true (mark_of (m + 1)) 1 q))
      go false p false q = absurd (true≢false (sym (both_so l m p q) ∙ b))

  -- where both are session numbers, they touch
  touching : EndsInFill one (s + length former) → BeginsWithFill other (s + length former) → Touching (plan_pairs l s m) (plan_pairs l (m + 1) e) (plan_pairs l s e)
  unfolding pairs
  touching f g =
      let n = s + length former in
      let w : join one other ≡ f.front ++ (gap_fill f.a g.c ∷ g.rest) =
      ap₂ join f.is g.is ∙ last-before f.front (gap_fill f.a n) (gap_fill n g.c ∷ g.rest)
      ∙ ap (λ (x : List Part). f.front ++ x) (fill-before f.a n n g.c g.rest refl f.up g.up) in
      record {
        front = pairs f.front;
        a = f.a;
        b = n;
        c = g.c;
        rest = pairs g.rest;
        one-is = ap pairs (one-is ∙ f.is) ∙ pairs-append f.front (gap_fill f.a n ∷ []);
        other-is = ap pairs (other-is ∙ g.is);
        whole_is = ap pairs (whole_is ∙ w) ∙ pairs-append f.front (gap_fill f.a g.c ∷ g.rest);
        up-to-b = f.up;
        up-to-c = g.up;
      }

  touch-last : both_session l m ≡ true → Touching (plan_pairs l s m) (plan_pairs l (m + 1) e) (plan_pairs l s e)
  touch-last b = go (eqb (mark_of m) 1) refl (eqb (mark_of (m + 1)) 1) refl
    where
      go : (t : Bool) → eqb (mark_of m) 1 ≡ t → (u : Bool) → eqb (mark_of (m + 1)) 1 ≡ u → Touching (plan_pairs l s m) (plan_pairs l (m + 1) e) (plan_pairs l s e)
      go true p u q = absurd (true≢false (sym b ∙ first-not l m p))
      go false p true q = absurd (true≢false (sym b ∙ second-not l m q))
      go false p false q =
          touching (ends s earlier (mark_of m) (mark_of (m + 1)) later (eqb-false (mark_of m) 1 p))
          (begins s earlier (mark_of m) (mark_of (m + 1)) later (eqb-false (mark_of (m + 1)) 1 q))

  -- exactly when
  follow-last : (plan_pairs l s m ++ plan_pairs l (m + 1) e ≡ plan_pairs l s e) ↔ (both_session l m ≡ false)
  follow-last = (only (both_session l m) touch-last, not-both)
    where
      only : (t : Bool) → (t ≡ true → Touching (plan_pairs l s m) (plan_pairs l (m + 1) e) (plan_pairs l s e))
          → plan_pairs l s m ++ plan_pairs l (m + 1) e ≡ plan_pairs l s e → t ≡ false
      only false f q = refl
      only true f q = absurd (apart-lengths (f refl) q)

-- ---- where the whole is a request, both halves are, and `join` makes of what `plan` writes for them what it writes for the whole

module _ (list : List ℕ) (s m e : ℕ) (q : is_request list s e ≡ true) (i : s ≤ m) (j : m < last_number list e) where
  pub former-asked : is_request list s m ≡ true
  unfolding is_request
  former-asked =
      let r = requested list s e q in
      rw (
        le-leb (length list) 65536 r.short,
        r.marked,
        le-leb 1 s r.from_one,
        le-leb s (length list) (omega (arith, last_within list e)),
        ne_eqb m 0 (λ z. omega (arith, r.from_one)),
        le-leb s m i,
      )
      refl

  pub latter-asked : is_request list (m + 1) e ≡ true
  unfolding is_request
  latter-asked =
      let r = requested list s e q in
      rw (le-leb (length list) 65536 r.short, r.marked, le-leb 1 (m + 1) (omega arith), le-leb (m + 1) (length list) (omega (arith, last_within list e)))
      (go (eqb e 0) refl)
    where
      go : (t : Bool) → eqb e 0 ≡ t → (t || leb (m + 1) e) ≡ true
      go true p = refl
      go false p = le-leb (m + 1) e (omega (arith, last-most list e (eqb-false e 0 p)))

  pub join-plans : (d : List ℕ)
      → (join_of (plan_pairs list s m) (plan_pairs list (m + 1) e) d ≡ plan_of list s e d) × (joined_in (plan_pairs list s m) (plan_pairs list (m + 1) e) d ≡ planned list s e d)
  join-plans d =
      let one = parts_of list s m in
      let other = parts_of list (m + 1) e in
      let asked : (is_pairs (pairs one) && is_pairs (pairs other)) ≡ is_request list s e = ap₂ (λ (t u : Bool). t && u) (pairs-whole one) (pairs-whole other) ∙ sym q in
      let parts : joined (pairs one) (pairs other) ≡ parts_of list s e =
      ap₂ join (parts_again one) (parts_again other) ∙ joined-parts list s m e (requested list s e q).from_one i j in
      (ap₂ (λ (t : Bool) (ps : List Part). answered t ps d) asked parts, ap₂ (λ (t : Bool) (ps : List Part). paired_in t ps d) asked parts)

-- ---- End as a number within the list

module _ (list : List ℕ) (s m e : ℕ) (h : 1 ≤ s) (i : s ≤ m) (j : m < e) (k : e ≤ length list) where
  up-to-last : m < last_number list e
  up-to-last = omega (arith, last-given list e (omega arith) k)

  pub plans-follow : (plan_pairs list s m ++ plan_pairs list (m + 1) e ≡ plan_pairs list s e) ↔ (both_session list m ≡ false)
  plans-follow = follow-last list s m e h i up-to-last

  pub plans-touch : both_session list m ≡ true → Touching (plan_pairs list s m) (plan_pairs list (m + 1) e) (plan_pairs list s e)
  plans-touch = touch-last list s m e h i up-to-last

  pub plans-joined : pairs (joined (plan_pairs list s m) (plan_pairs list (m + 1) e)) ≡ plan_pairs list s e
  plans-joined = joined-last list s m e h i up-to-last

-- ---- an End of 0, or past the list

module _ (list : List ℕ) (s m e : ℕ) (h : 1 ≤ s) (i : s ≤ m) (j : m < length list) (k : (e ≡ 0) ⊎ (length list ≤ e)) where
  up-to-open : m < last_number list e
  up-to-open = omega (arith, last-open list e k)

  -- the whole is the plan up to the list's last number
  pub open-whole : plan_pairs list s e ≡ plan_pairs list s (length list)
  unfolding parts_of
  open-whole =
      let q : last_number list e ≡ last_number list (length list) = last-open list e k ∙ sym (last-given list (length list) (omega arith) (omega arith)) in
      ap (λ (z : ℕ). pairs (parts_from s (drop (s - 1) (take z list)))) q

  pub open-follow : (plan_pairs list s m ++ plan_pairs list (m + 1) e ≡ plan_pairs list s e) ↔ (both_session list m ≡ false)
  open-follow = follow-last list s m e h i up-to-open

  pub open-touch : both_session list m ≡ true → Touching (plan_pairs list s m) (plan_pairs list (m + 1) e) (plan_pairs list s e)
  open-touch = touch-last list s m e h i up-to-open

  pub open-joined : pairs (joined (plan_pairs list s m) (plan_pairs list (m + 1) e)) ≡ plan_pairs list s e
  open-joined = joined-last list s m e h i up-to-open
