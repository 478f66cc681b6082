-- What the loops of the plan ask: a list that is marked, a gap fill that is still open, and the pairs written so far. Number i + 1 stands at index i.
use mathlib.Core.Path.{◌≡◌, refl, sym, ap, ap₂, ◌∙◌}
use Prim.Native.Nat.{ℕ, zero, suc, ◌+◌, ◌-◌, ◌*◌, ◌≤◌, ◌<◌, min}
use native.Mathlib.Nat.{le-min, min-le_right}
use native.Mathlib.Numerals.{add-one}
use native.Mathlib.Omega.{arith}
use mathlib.Core.Bool.{Bool, true, false, cond, ◌&&◌, ◌||◌}
use mathlib.Core.List.{List, [], ◌∷◌, ◌++◌, append_assoc, append-nil}
use lib.Dec.{eqb, leb}
use lib.ListN.{length, get_or, set, take, drop, drop_of_length-le, length-append, length-set, take-append-drop}
use lib.Seq.{drop-cons, sets-eq, take_at, drop_at, drop-drop, length-take-le}
use borrow.Author.Tests.{eq-eqb, ne_eqb, le-leb, lt-leb, leb-true}
use Rattle.std.specs.Prelude.{Result, Ok, Err, MatchBool}
use Rattle.std.specs.List.{AllWithin, HoldsAt}
use Rattle.plan.specs.Plan.{Part, business, gap_fill, session, parts_from, last_number, parts_of, all_marked, is_request, pairs, paired, answered, paired_in}
use Rattle.plan.specs.declared.NotPlanned.{NotPlanned}
use Rattle.plan.specs.declared.NotPlanned.TheVariants.{BadRequest, NoRoom}

-- a gap fill from `first` that has reached n, before what is sent for the numbers from n on
unfoldable pub opened : ℕ → ℕ → List Part → List Part
opened first n [] = gap_fill first n ∷ []
opened first n (p ∷ ps) = cond (eqb p.new 0) (gap_fill first n ∷ p ∷ ps) (gap_fill first p.new ∷ ps)

-- a session number opens a gap fill
pub session-opens : (n : ℕ) (ps : List Part) → session n ps ≡ opened n (n + 1) ps
unfolding session opened
session-opens n [] = refl
session-opens n (p ∷ ps) = refl

-- a session number keeps it open
pub session-keeps-open : (first n : ℕ) (ps : List Part) → opened first n (session n ps) ≡ opened first (n + 1) ps
unfolding session opened
session-keeps-open first n [] = rw (ne_eqb (n + 1) 0 (λ e. omega arith))
session-keeps-open first n (p ∷ ps) = go (eqb p.new 0) refl
  where
    go : (t : Bool) → eqb p.new 0 ≡ t
        → opened first n (cond t (gap_fill n (n + 1) ∷ p ∷ ps) (gap_fill n p.new ∷ ps)) ≡ cond t (gap_fill first (n + 1) ∷ p ∷ ps) (gap_fill first p.new ∷ ps)
    go true e = rw (ne_eqb (n + 1) 0 (λ e. omega arith))
    go false e = rw e

module _ (l : List ℕ) (i : ℕ) where
  module _ (h : i < length l) where
    pub business-part : get_or l i 0 ≡ 1 → parts_from (i + 1) (drop i l) ≡ business (i + 1) ∷ parts_from (i + 1 + 1) (drop (i + 1) l)
    unfolding parts_from
    business-part e = rw (drop-cons l i 0, eq-eqb (get_or l i 0) 1 e, add-one i)

    session-part : (get_or l i 0 ≡ 1 → ⊥) → parts_from (i + 1) (drop i l) ≡ session (i + 1) (parts_from (i + 1 + 1) (drop (i + 1) l))
    unfolding parts_from
    session-part e = rw (drop-cons l i 0, ne_eqb (get_or l i 0) 1 e, add-one i)

    pub run-opens : (get_or l i 0 ≡ 1 → ⊥) → parts_from (i + 1) (drop i l) ≡ opened (i + 1) (i + 1 + 1) (parts_from (i + 1 + 1) (drop (i + 1) l))
    run-opens e = session-part e ∙ session-opens (i + 1) (parts_from (i + 1 + 1) (drop (i + 1) l))

    module _ (first : ℕ) where
      pub run-goes-on : (get_or l i 0 ≡ 1 → ⊥) → opened first (i + 1) (parts_from (i + 1) (drop i l)) ≡ opened first (i + 1 + 1) (parts_from (i + 1 + 1) (drop (i + 1) l))
      run-goes-on e = ap (opened first (i + 1)) (session-part e) ∙ session-keeps-open first (i + 1) (parts_from (i + 1 + 1) (drop (i + 1) l))

      pub run-ends-at-business : get_or l i 0 ≡ 1 → opened first (i + 1) (parts_from (i + 1) (drop i l)) ≡ gap_fill first (i + 1) ∷ parts_from (i + 1) (drop i l)
      unfolding opened
      run-ends-at-business e = rw (business-part e)

  pub no-part-left : length l ≤ i → parts_from (i + 1) (drop i l) ≡ []
  unfolding parts_from
  no-part-left h = ap (parts_from (i + 1)) (drop_of_length-le l h)

  pub run-ends-with-list : (first : ℕ) → length l ≤ i → opened first (i + 1) (parts_from (i + 1) (drop i l)) ≡ gap_fill first (i + 1) ∷ parts_from (i + 1) (drop i l)
  unfolding opened
  run-ends-with-list first h = rw (no-part-left h)

-- the marks
marks-good : (l : List ℕ) → AllWithin (λ b. b ≤ 1) l 0 (length l) → all_marked l ≡ true
unfolding all_marked
marks-good [] h = refl
marks-good (b ∷ bs) h = rw (le-leb b 1 (h 0 0 (omega arith) (omega arith))) (marks-good bs (λ k d low high. h (suc k) d (omega arith) (omega arith)))

cond-same : (t : Bool) (u : Bool) → cond t u u ≡ u
cond-same true u = refl
cond-same false u = refl

mark-bad : (l : List ℕ) (k : ℕ) → k < length l → 1 < get_or l k 0 → all_marked l ≡ false
unfolding all_marked
mark-bad [] k h b = absurd (omega arith)
mark-bad (m ∷ ms) zero h b = rw (lt-leb m 1 b)
mark-bad (m ∷ ms) (suc k) h b = rw (mark-bad ms k (omega arith) b) (cond-same (leb m 1) false)

pub marks-told : (l : List ℕ) (r : Bool) → MatchBool r (AllWithin (λ b. b ≤ 1) l 0 (length l)) ((k : ℕ) × (k < length l) × HoldsAt (λ b. 1 < b) l k) → r ≡ all_marked l
marks-told l true h = sym (marks-good l h)
marks-told l false h = sym (mark-bad l h.0 h.1 (h.2 0))

-- the parts `all` are being written into d₀: `rest` is left, and d is now written up to `at`
pub record Written (all rest : List Part) (d₀ d : List ℕ) (at : ℕ) : Type 0 where
  pub front : take at d ++ pairs rest ≡ pairs all
  pub behind : drop at d ≡ drop at d₀
  pub room : at + 2 * length rest ≡ 2 * length all
  pub size : length d ≡ length d₀

pub written_none : (all : List Part) (d : List ℕ) → Written all all d d 0
written_none all d = record { front = refl; behind = refl; room = omega arith; size = refl }

pub written-part : (all ps : List Part) (p : Part) (d₀ d : List ℕ) (at : ℕ) → 2 * length all ≤ length d₀ → Written all (p ∷ ps) d₀ d at
    → Written all ps d₀ (set (set d at p.first) (at + 1) p.new) (at + 2)
unfolding pairs
written-part all ps p d₀ d at h w =
    let two : List ℕ = p.first ∷ p.new ∷ [] in
    let fits : at + 2 ≤ length d = omega (arith, w.room, w.size) in
    let laid : set (set d at p.first) (at + 1) p.new ≡ take at d ++ two ++ drop (at + 2) d = ap (λ (k : ℕ). set (set d at p.first) k p.new) (add-one at) ∙ sets-eq two d at fits in
    let seam : length (take at d ++ two) ≡ at + 2 = length-append (take at d) two ∙ ap (λ (k : ℕ). k + 2) (length-take-le at d (omega arith)) in
    record {
      front =
          ap (λ (r : List ℕ). take (at + 2) r ++ pairs ps) laid
          ∙ ap (λ (r : List ℕ). r ++ pairs ps) (take_at (take at d ++ two) (drop (at + 2) d) (at + 2) seam)
          ∙ append_assoc (take at d) two (pairs ps)
          ∙ w.front;
      behind =
          ap (drop (at + 2)) laid
          ∙ drop_at (take at d ++ two) (drop (at + 2) d) (at + 2) seam
          ∙ sym (drop-drop 2 at d)
          ∙ ap (drop 2) w.behind
          ∙ drop-drop 2 at d₀;
      room = omega (arith, w.room);
      size = simp length-set w.size;
    }

-- a part that is left has its room
pub written-room : (all rest ps : List Part) (p : Part) (d₀ d : List ℕ) (at : ℕ) → 2 * length all ≤ length d₀ → rest ≡ p ∷ ps → Written all rest d₀ d at
    → at + 2 ≤ length d
written-room all rest ps p d₀ d at h e w = omega (arith, w.room, w.size, ap length e)

pub written_all : (all : List Part) (d₀ d : List ℕ) (at : ℕ) → Written all [] d₀ d at → d ≡ pairs all ++ drop (2 * length all) d₀
unfolding pairs
written_all all d₀ d at w =
    let e : at ≡ 2 * length all = omega (arith, w.room) in
    sym (take-append-drop at d)
    ∙ ap₂ (λ (x y : List ℕ). x ++ y) (sym (append-nil (take at d)) ∙ w.front) w.behind
    ∙ ap (λ (k : ℕ). pairs all ++ drop k d₀) e

-- what is known of a request that is not refused
pub record Request (list : List ℕ) (s e : ℕ) : Type 0 where
  pub short : length list ≤ 65536
  pub marked : all_marked list ≡ true
  pub from_one : 1 ≤ s
  pub up-to-last : s ≤ last_number list e

pub last_within : (list : List ℕ) (e : ℕ) → last_number list e ≤ length list
unfolding last_number
last_within list e = go (eqb e 0)
  where
    go : (t : Bool) → cond t (length list) (min e (length list)) ≤ length list
    go true = omega arith
    go false = min-le_right e (length list)

pub requested : (list : List ℕ) (s e : ℕ) → is_request list s e ≡ true → Request list s e
unfolding is_request last_number
requested list s e q = go (leb (length list) 65536) (all_marked list) (leb 1 s) (leb s (length list)) (eqb e 0) (leb s e) refl refl refl refl refl refl q
  where
    go : (a b c d f g : Bool) → leb (length list) 65536 ≡ a → all_marked list ≡ b → leb 1 s ≡ c → leb s (length list) ≡ d → eqb e 0 ≡ f → leb s e ≡ g
        → (a && b && c && d && (f || g)) ≡ true → Request list s e
    go false b c d f g ea eb ec ed ef eg q = let z : ◌≡◌ {A = ℕ} 0 1 = cc in absurd (omega arith)
    go true false c d f g ea eb ec ed ef eg q = let z : ◌≡◌ {A = ℕ} 0 1 = cc in absurd (omega arith)
    go true true false d f g ea eb ec ed ef eg q = let z : ◌≡◌ {A = ℕ} 0 1 = cc in absurd (omega arith)
    go true true true false f g ea eb ec ed ef eg q = let z : ◌≡◌ {A = ℕ} 0 1 = cc in absurd (omega arith)
    go true true true true false false ea eb ec ed ef eg q = let z : ◌≡◌ {A = ℕ} 0 1 = cc in absurd (omega arith)
    go true true true true true g ea eb ec ed ef eg q =
        record { short = leb-true _ _ ea; marked = eb; from_one = leb-true _ _ ec; up-to-last = rw ef (leb-true _ _ ed) }
    go true true true true false true ea eb ec ed ef eg q =
        record { short = leb-true _ _ ea; marked = eb; from_one = leb-true _ _ ec; up-to-last = rw ef (le-min (leb-true _ _ eg) (leb-true _ _ ed)) }

-- the list up to the last number, from index s - 1 on
pub parts-at-start : (list : List ℕ) (s e n : ℕ) → 1 ≤ s → n ≡ last_number list e → parts_from (s - 1 + 1) (drop (s - 1) (take n list)) ≡ parts_of list s e
unfolding parts_of
parts-at-start list s e n h q =
    let u : s - 1 + 1 ≡ s = omega arith in
    ap₂ (λ (k m : ℕ). parts_from k (drop (s - 1) (take m list))) u q

-- the three answers
pub refused : {good : Bool} (whole : List Part) (d : List ℕ) → good ≡ false → (Err BadRequest ≡ answered good whole d) × (d ≡ paired_in good whole d)
unfolding answered paired_in
refused whole d q = (rw q, rw q)

module _ {good : Bool} {whole : List Part} (d : List ℕ) (q : good ≡ true) (ps : List Part) (p : ps ≡ whole) (n : ℕ) (c : n ≡ length ps) where
  pub no_room : length d < 2 * n → (Err (NoRoom n) ≡ answered good whole d) × (d ≡ paired_in good whole d)
  unfolding answered paired_in
  no_room h =
      let k : n ≡ length whole = c ∙ ap length p in
      let full = lt-leb (2 * length whole) (length d) (omega arith) in
      (rw (q, full) (ap (λ (m : ℕ). Err (NoRoom m)) k), rw (q, full))

  pub wrote : 2 * n ≤ length d → (x : List ℕ) → x ≡ paired ps d → (Ok n ≡ answered good whole d) × (x ≡ paired_in good whole d)
  unfolding answered paired_in
  wrote h x w =
      let k : n ≡ length whole = c ∙ ap length p in
      let room = le-leb (2 * length whole) (length d) (omega arith) in
      (rw (q, room) (ap Ok k), rw (q, room) (w ∙ ap (λ (x : List Part). paired x d) p))

-- what was written fits
pub wrote-fits : (good : Bool) (ps : List Part) (d : List ℕ) (r : Result ℕ NotPlanned) (n : ℕ) → r ≡ answered good ps d → r ≡ Ok n → 2 * n ≤ length d
unfolding answered
wrote-fits good ps d r n a w = go good (leb (2 * length ps) (length d)) refl (sym a ∙ w)
  where
    go : (a b : Bool) → leb (2 * length ps) (length d) ≡ b → cond a (cond b (Ok (length ps)) (Err (NoRoom (length ps)))) (Err BadRequest) ≡ Ok n → 2 * n ≤ length d
    go false b f w = let z : ◌≡◌ {A = ℕ} 0 1 = cc in absurd (omega arith)
    go true false f w = let z : ◌≡◌ {A = ℕ} 0 1 = cc in absurd (omega arith)
    go true true f w = let k : length ps ≡ n = cc in omega (arith, leb-true (2 * length ps) (length d) f)
