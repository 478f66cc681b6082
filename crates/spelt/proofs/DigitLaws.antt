-- The digits of a number, laid from the last.
use mathlib.Core.Path.{◌≡◌, refl, sym, ap, ap₂, ◌∙◌}
use Prim.Native.Nat.{ℕ, zero, suc, ◌+◌, ◌-◌, ◌/◌, ◌%◌, ◌<◌, ◌≤◌}
use native.Mathlib.Nat.{not-suc-le-zero, le_of_suc-le-suc}
use native.Mathlib.Omega.{arith}
use mathlib.Core.Bool.{Bool, true, false, cond}
use mathlib.Core.List.{List, [], ◌∷◌, ◌++◌, append_assoc}
use lib.Dec.{ltb}
use lib.ListN.{length, set, take, drop, length-append, length-drop}
use lib.Seq.{take_all}
use borrow.Author.Tests.{lt-ltb, le-ltb}
use Rattle.spelt.specs.Spelt.{digits, number_text}

-- a byte set stands before the rest
set_before : (j : ℕ) (t : List ℕ) (x : ℕ) → j < length t → drop j (set t j x) ≡ x ∷ drop (suc j) t
set_before j [] x h = absurd (not-suc-le-zero h)
set_before zero (y ∷ t) x h = refl
set_before (suc j) (y ∷ t) x h = set_before j t x (le_of_suc-le-suc h)

-- one digit d of v, before those that stand in t from i on
module _ (t : List ℕ) (i v d : ℕ) (p : 0 < i) (h : i ≤ length t) (q : d ≡ 48 + v % 10) where
  before-set : drop (i - 1) (set t (i - 1) d) ≡ (48 + v % 10) ∷ drop i t
  before-set =
      let e : suc (i - 1) ≡ i = omega arith in
      let g : i - 1 < length t = omega arith in
      set_before (i - 1) t d g ∙ ap₂ {C = List ℕ} (λ (x k : ℕ). x ∷ drop k t) q e

  pub digit-last : v < 10 → drop (i - 1) (set t (i - 1) d) ≡ digits i v ++ drop i t
  unfolding digits
  digit-last l =
      let e : i ≡ suc (i - 1) = omega arith in
      let m : 48 + v % 10 ≡ 48 + v = omega arith in
      before-set ∙ ap (λ (x : ℕ). x ∷ drop i t) m ∙ sym (ap (λ (k : ℕ). digits k v ++ drop i t) e ∙ rw (lt-ltb v 10 l))

  pub digit-more : 10 ≤ v → digits (i - 1) (v / 10) ++ drop (i - 1) (set t (i - 1) d) ≡ digits i v ++ drop i t
  unfolding digits
  digit-more l =
      let e : i ≡ suc (i - 1) = omega arith in
      ap (λ (x : List ℕ). digits (i - 1) (v / 10) ++ x) before-set
      ∙ sym (append_assoc (digits (i - 1) (v / 10)) ((48 + v % 10) ∷ []) (drop i t))
      ∙ sym (ap (λ (k : ℕ). digits k v ++ drop i t) e ∙ rw (le-ltb v 10 l))

-- digits lent from k on, out of twenty
pub twenty-rest : (t : List ℕ) (k : ℕ) → length t ≡ 20 → take (20 - k) (drop k t) ≡ drop k t
twenty-rest t k e =
    let l : length (drop k t) ≤ 20 - k = rw length-drop (omega arith) in
    take_all (20 - k) (drop k t) l

-- a number has at most as many digits as it may have
digits-most : (k n : ℕ) → length (digits k n) ≤ k
unfolding digits
digits-most zero n = omega arith
digits-most (suc k) n = either (ltb n 10) (digits-most k (n / 10))
  where
    either : (b : Bool) → length (digits k (n / 10)) ≤ k → length (cond b ((48 + n) ∷ []) (digits k (n / 10) ++ (48 + n % 10) ∷ [])) ≤ suc k
    either true h = omega arith
    either false h = simp length-append (omega arith)

pub number-most : (n : ℕ) → length (number_text n) ≤ 20
unfolding number_text
number-most n = digits-most 20 n
