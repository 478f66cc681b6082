-- The pairs of two plans that are joined: the one's numbers, the last of them another where the two touch, and the other's behind them.
use Prim.Native.Nat.{ℕ, suc, ◌+◌, ◌-◌, ◌*◌, ◌/◌, ◌%◌, ◌≤◌, ◌<◌}
use mathlib.Core.Path.{◌≡◌, refl, sym, ap, ap₂, subst, ◌∙◌}
use mathlib.Core.Bool.{Bool, true, false, cond}
use mathlib.Core.List.{List, [], ◌∷◌, ◌++◌}
use native.Mathlib.Omega.{arith}
use lib.Dec.{eqb, ltb}
use lib.ListN.{length, get_or, set, drop, length-append, length-set, length-drop}
use lib.Seq.{set-append_left}
use borrow.Author.Tests.{le-ltb, ltb-false, eq-eqb, ne_eqb, eqb-true}
use Rattle.wire.specs.Laying.{at_front}
use Rattle.wire.proofs.TestLaws.{either}
use Rattle.plan.specs.Plan.{Part, gap_fill, pairs, paired}
use Rattle.plan.specs.Join.{touch, before, join, parts_in, is_pairs, joined, seam}

pub pairs-append : (ps qs : List Part) → pairs (ps ++ qs) ≡ pairs ps ++ pairs qs
unfolding pairs
pairs-append [] qs = refl
pairs-append (p ∷ ps) qs = ap (λ (x : List ℕ). p.first ∷ p.new ∷ x) (pairs-append ps qs)

pub parts_again : (ps : List Part) → parts_in (pairs ps) ≡ ps
unfolding parts_in pairs
parts_again [] = refl
parts_again (p ∷ ps) = ap (λ (x : List Part). p ∷ x) (parts_again ps)

pairs-again : (k : ℕ) (ns : List ℕ) → length ns ≡ 2 * k → pairs (parts_in ns) ≡ ns
unfolding parts_in pairs
pairs-again k [] e = refl
pairs-again k (n ∷ []) e = absurd (omega arith)
pairs-again k (n ∷ new ∷ ns) e = ap (λ (x : List ℕ). n ∷ new ∷ x) (pairs-again (k - 1) ns (omega arith))

-- the numbers of the joined plan, where so many of the other's fall away
abbrev joined_by : ℕ → List ℕ → List ℕ → List ℕ
joined_by cut one other = cond (eqb cut 0) one (set one (length one - 1) (get_or other 1 0)) ++ drop cut other

seam-on : (a b c d : ℕ) (ns other : List ℕ) → seam (a ∷ b ∷ c ∷ d ∷ ns) other ≡ seam (c ∷ d ∷ ns) other
unfolding seam
seam-on a b c d ns other =
    let n : suc (suc (suc (suc (length ns)))) - 1 ≡ suc (suc (suc (length ns))) = omega arith in
    let m : suc (suc (length ns)) - 1 ≡ suc (length ns) = omega arith in
    let p : suc (suc (suc (suc (length ns)))) - 2 ≡ suc (suc (length ns)) = omega arith in
    let q : suc (suc (length ns)) - 2 ≡ length ns = omega arith in
    rw (n, m, p, q, le-ltb (suc (suc (suc (suc (length ns))))) 2 (omega arith), le-ltb (suc (suc (length ns))) 2 (omega arith)) refl

joined-on : (cut a b c d : ℕ) (ns other : List ℕ) → joined_by cut (a ∷ b ∷ c ∷ d ∷ ns) other ≡ a ∷ b ∷ joined_by cut (c ∷ d ∷ ns) other
joined-on cut a b c d ns other =
    let n : suc (suc (suc (suc (length ns)))) - 1 ≡ suc (suc (suc (length ns))) = omega arith in
    let m : suc (suc (length ns)) - 1 ≡ suc (length ns) = omega arith in
    rw (n, m) (go (eqb cut 0))
  where
    go : (t : Bool) → cond t (a ∷ b ∷ c ∷ d ∷ ns) (a ∷ b ∷ set (c ∷ d ∷ ns) (suc (length ns)) (get_or other 1 0)) ++ drop cut other
        ≡ a ∷ b ∷ (cond t (c ∷ d ∷ ns) (set (c ∷ d ∷ ns) (suc (length ns)) (get_or other 1 0)) ++ drop cut other)
    go true = refl
    go false = refl

join-numbers : (ps qs : List Part) → pairs (join ps qs) ≡ joined_by (seam (pairs ps) (pairs qs)) (pairs ps) (pairs qs)
unfolding pairs join before seam
join-numbers [] qs = refl
join-numbers (p ∷ []) [] = refl
join-numbers (p ∷ []) (q ∷ qs) = rw (le-ltb (suc (suc (length (pairs qs)))) 2 (omega arith)) (go (touch p q))
  where
    go : (t : Bool) → pairs (cond t (gap_fill p.first q.new ∷ qs) (p ∷ q ∷ qs))
        ≡ joined_by (cond t 2 0) (p.first ∷ p.new ∷ []) (q.first ∷ q.new ∷ pairs qs)
    go true = refl
    go false = refl
join-numbers (p ∷ r ∷ ps) qs =
    ap (λ (x : List ℕ). p.first ∷ p.new ∷ x) (join-numbers (r ∷ ps) qs)
    ∙ sym (joined-on (seam (pairs (r ∷ ps)) (pairs qs)) p.first p.new r.first r.new (pairs ps) (pairs qs))
    ∙ ap (λ (x : ℕ). joined_by x (pairs (p ∷ r ∷ ps)) (pairs qs)) (sym (seam-on p.first p.new r.first r.new (pairs ps) (pairs qs)))

pairs-length : (ps : List Part) → length (pairs ps) ≡ 2 * length ps
unfolding pairs
pairs-length [] = refl
pairs-length (p ∷ ps) = omega (arith, pairs-length ps)

-- what falls away is a pair or nothing, and lies within
pub data Falls (one other : List ℕ) : ℕ → Type 0 where
  nothing : Falls one other 0
  pair : 2 ≤ length one → 2 ≤ length other → Falls one other 2

pub falls : (one other : List ℕ) → Falls one other (seam one other)
unfolding seam
falls one other =
    either (Falls one other) (ltb (length one) 2) (λ t. nothing)
    (λ t. either (Falls one other) (ltb (length other) 2) (λ u. nothing)
    (λ u. either (Falls one other) (touch (gap_fill (get_or one (length one - 2) 0) (get_or one (length one - 1) 0)) (gap_fill (get_or other 0 0) (get_or other 1 0)))
    (λ v. pair (ltb-false (length one) 2 t) (ltb-false (length other) 2 u)) (λ v. nothing)))

pub falls-both : {one other : List ℕ} {cut : ℕ} → Falls one other cut → cut ≡ 2 → (2 ≤ length one) × (2 ≤ length other)
falls-both nothing e = absurd (omega arith)
falls-both (pair h l) e = (h, l)

pub falls-within : {one other : List ℕ} {cut : ℕ} → Falls one other cut → cut ≤ length other
falls-within nothing = omega arith
falls-within (pair h l) = l

-- whole pairs
pub is_whole : (ns : List ℕ) → length ns % 2 ≡ 0 → is_pairs ns ≡ true
unfolding is_pairs
is_whole ns h = eq-eqb (length ns % 2) 0 h

pub not-whole : (ns : List ℕ) → (length ns % 2 ≡ 0 → ⊥) → is_pairs ns ≡ false
unfolding is_pairs
not-whole ns h = ne_eqb (length ns % 2) 0 h

even : (ns : List ℕ) → is_pairs ns ≡ true → length ns ≡ 2 * (length ns / 2)
unfolding is_pairs
even ns h = omega (arith, eqb-true (length ns % 2) 0 h)

pub pairs-whole : (ps : List Part) → is_pairs (pairs ps) ≡ true
pairs-whole ps = is_whole (pairs ps) (omega (arith, pairs-length ps))

-- the numbers of two plans that are joined
module _ (one other : List ℕ) (h : is_pairs one ≡ true) (l : is_pairs other ≡ true) where
  joined_numbers : pairs (joined one other) ≡ joined_by (seam one other) one other
  joined_numbers =
      let a = pairs-again (length one / 2) one (even one h) in
      let b = pairs-again (length other / 2) other (even other l) in
      join-numbers (parts_in one) (parts_in other) ∙ ap₂ (λ (x y : List ℕ). joined_by (seam x y) x y) a b

  by_length : {cut : ℕ} → Falls one other cut → length (joined_by cut one other) ≡ length one + (length other - cut)
  by_length nothing = omega (arith, length-append one other)
  by_length (pair p q) =
      length-append (set one (length one - 1) (get_or other 1 0)) (drop 2 other)
      ∙ ap₂ (λ (x y : ℕ). x + y) (length-set one (length one - 1) (get_or other 1 0)) (length-drop 2 other)

  pub joined_length : 2 * length (joined one other) ≡ length one + (length other - seam one other)
  joined_length = sym (pairs-length (joined one other)) ∙ ap length joined_numbers ∙ by_length (falls one other)

  pub joined-pairs : (length one + (length other - seam one other)) / 2 ≡ length (joined one other)
  joined-pairs = omega (arith, joined_length)

-- ---- writing

-- the joined plan at the front of d, from the one's numbers and those of the other that do not fall away
module _ (one other d : List ℕ) (h : is_pairs one ≡ true) (l : is_pairs other ≡ true) (x : List ℕ) where
  abbrev Laid : ℕ → Type 0
  Laid cut = x ≡ at_front (one ++ drop cut other) d

  abbrev tail : ℕ → List ℕ
  tail cut = drop (length (one ++ drop cut other)) d

  behind : (cut : ℕ) → cut ≡ seam one other → tail cut ≡ drop (2 * length (joined one other)) d
  behind cut q =
      let n : length (one ++ drop cut other) ≡ 2 * length (joined one other) =
      omega (arith, length-append one (drop cut other), length-drop cut other, joined_length one other h l, q) in
      ap (λ (k : ℕ). drop k d) n

  numbers : (cut : ℕ) → cut ≡ seam one other → joined_by cut one other ≡ pairs (joined one other)
  numbers cut q = ap (λ (k : ℕ). joined_by k one other) q ∙ sym (joined_numbers one other h l)

  -- they do not touch
  apart_by : {cut : ℕ} → Falls one other cut → cut ≡ seam one other → Laid cut → (cut ≡ 2 → ⊥) → x ≡ paired (joined one other) d
  apart_by nothing q e n = e ∙ ap₂ (λ (a b : List ℕ). a ++ b) (numbers 0 q) (behind 0 q)
  apart_by (pair p r) q e n = absurd (n refl)

  -- they touch: the one's last gap fill leads where the other's first did
  touch-by : {cut : ℕ} → Falls one other cut → cut ≡ seam one other → Laid cut → cut ≡ 2 → set x (length one - 1) (get_or other 1 0) ≡ paired (joined one other) d
  touch-by nothing q e n = absurd (omega arith)
  touch-by (pair p r) q e n =
      let at = length one - 1 in
      let new = get_or other 1 0 in
      let k : at < length (one ++ drop 2 other) = omega (arith, length-append one (drop 2 other)) in
      ap (λ (z : List ℕ). set z at new) e ∙ set-append_left (one ++ drop 2 other) (tail 2) at new k
      ∙ ap₂ (λ (a b : List ℕ). a ++ b) (set-append_left one (drop 2 other) at new (omega arith) ∙ numbers 2 q) (behind 2 q)

  module _ (cut : ℕ) (q : cut ≡ seam one other) (e : Laid cut) where
    falls-so : Falls one other cut
    falls-so = subst (Falls one other) (sym q) (falls one other)

    pub laid-apart : (cut ≡ 2 → ⊥) → x ≡ paired (joined one other) d
    laid-apart = apart_by falls-so q e

    pub laid-touching : cut ≡ 2 → set x (length one - 1) (get_or other 1 0) ≡ paired (joined one other) d
    laid-touching = touch-by falls-so q e
