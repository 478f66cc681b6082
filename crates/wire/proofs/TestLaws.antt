-- Laws of tests: what a test that came out one way says, and a law of either way. Assumes nothing.
use Rattle.std.proofs.Common.{◌≡◌, ℕ, ◌-◌, Bool, true, false, cond, ◌&&◌, List, length, take, drop, refl, le_of_eq, arith, length-drop, take_all}
use mathlib.Core.Bool.{and-eq-true_iff}

-- a test and then another, both passed
pub both : (p q : Bool) → cond p q false ≡ true → (p ≡ true) × (q ≡ true)
both true q h = (refl, h)
both false q h = let z : ◌≡◌ {A = ℕ} 0 1 = cc in absurd (omega arith)

pub and-true : (a b : Bool) → a && b ≡ true → (a ≡ true) × (b ≡ true)
and-true a b e = (and-eq-true_iff a b).0 e

-- what holds on each way of a test holds of its result
pub either : {A : Type 0} (P : A → Type 0) (b : Bool) {x y : A} → (b ≡ true → P x) → (b ≡ false → P y) → P (cond b x y)
either P true f g = f refl
either P false f g = g refl

-- a test whose other way does not give z was passed
pub passed : {A : Type 0} (b : Bool) (x y z : A) → (y ≡ z → ⊥) → cond b x y ≡ z → (b ≡ true) × (x ≡ z)
passed true x y z n e = (refl, e)
passed false x y z n e = absurd (n e)

-- all bytes from the k-th on, as a slice of them is lent
pub rest_of : (s : List ℕ) (k : ℕ) → take (length s - k) (drop k s) ≡ drop k s
rest_of s k = take_all (length s - k) (drop k s) (le_of_eq (length-drop k s))
