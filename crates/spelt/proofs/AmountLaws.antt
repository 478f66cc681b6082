-- The digits of a fraction, laid from the first, and the parts of a Decimal's text.
use mathlib.Core.Path.{◌≡◌, refl, sym, ap, ◌∙◌}
use Prim.Native.Nat.{ℕ, zero, suc, ◌+◌, ◌-◌, ◌/◌, ◌%◌, ◌^◌, ◌<◌}
use native.Mathlib.Nat.{pow-suc, pow-succ', one-le-pow, mod-eq_of_lt, mul-div_cancel, div-lt_iff_lt-mul}
use native.Mathlib.Numerals.{add-one}
use native.Mathlib.Omega.{arith}
use mathlib.Core.Bool.{true, false}
use mathlib.Core.List.{List, [], ◌∷◌, ◌++◌, append_assoc, append-nil}
use mathlib.Core.Logic.{◌≢◌}
use lib.IntN.{ℤ, pos, nat_abs}
use lib.ListN.{length, set, take}
use lib.Seq.{take-suc-set}
use lib.Signed.{lt_z}
use borrow.Author.Tests.{eq-eqb, ne_eqb}
use Rattle.wire.proofs.DecimalLaws.{is-neg, is_pos}
use Rattle.spelt.specs.Spelt.{number_text, fraction, hundred_millionths, amount_text}

-- of nothing there are no digits
pub fraction-none : (k : ℕ) → fraction k 0 ≡ []
unfolding fraction
fraction-none zero = refl
fraction-none (suc k) = refl

-- the first of k + 1 digits
fraction-first : (k v : ℕ) → 0 < v → v < 10 ^ suc k → fraction (suc k) v ≡ (48 + v / 10 ^ k % 10) ∷ fraction k (v % 10 ^ k)
unfolding fraction
fraction-first k v l h =
    let b : v / 10 ^ k < 10 = (div-lt_iff_lt-mul (one-le-pow k 10 (omega arith))).1 (rw pow-succ' at h) in
    rw (ne_eqb v 0 (λ e. omega arith), mod-eq_of_lt b)

-- what is left of a fraction, v, has k digits at most, and p is 10 ^ k
module _ (k v p : ℕ) (e : p ≡ 10 ^ k) (l : 0 < v) (h : v < p) where
  some : (j : ℕ) → p ≡ 10 ^ j → 0 < j
  some zero q = absurd (omega arith)
  some (suc j) q = omega arith

  pub some_left : 0 < k
  some_left = some k e

  one_more : k ≡ suc (k - 1)
  one_more = omega (arith, some_left)

  power : p ≡ 10 ^ suc (k - 1)
  power = e ∙ ap (λ (j : ℕ). 10 ^ j) one_more

  pub next_power : p / 10 ≡ 10 ^ (k - 1)
  next_power = ap (λ (x : ℕ). x / 10) (power ∙ pow-suc 10 (k - 1)) ∙ mul-div_cancel (10 ^ (k - 1)) (omega arith)

  pub next-some : 0 < p / 10
  next-some = rw next_power (one-le-pow (k - 1) 10 (omega arith))

  next-digit : fraction k v ≡ (48 + v / (p / 10) % 10) ∷ fraction (k - 1) (v % (p / 10))
  next-digit =
      ap (λ (j : ℕ). fraction j v) one_more ∙ fraction-first (k - 1) v l (rw power at h) ∙ rw next_power

  -- one digit x more behind the first i bytes of d
  pub digit-behind : (d w : List ℕ) (i x : ℕ) → i < length d → x ≡ 48 + v / (p / 10) % 10 → take i d ++ fraction k v ≡ w
      → take (i + 1) (set d i x) ++ fraction (k - 1) (v % (p / 10)) ≡ w
  digit-behind d w i x g q f =
      let r = fraction (k - 1) (v % (p / 10)) in
      ap (λ (j : ℕ). take j (set d i x) ++ r) (add-one i) ∙ ap (λ (t : List ℕ). t ++ r) (take-suc-set d i x g) ∙ append_assoc (take i d) (x ∷ []) r
      ∙ ap (λ (y : ℕ). take i d ++ y ∷ r) q ∙ ap (λ (t : List ℕ). take i d ++ t) (sym next-digit) ∙ f

-- what stands after the point, if anything
module _ (n : ℕ) where
  pub whole-alone : n % 10 ^ 8 ≡ 0 → hundred_millionths n ≡ number_text (n / 10 ^ 8)
  unfolding hundred_millionths
  whole-alone h = rw (eq-eqb (n % 10 ^ 8) 0 h, append-nil)

  pub whole-and-more : n % 10 ^ 8 ≢ 0 → hundred_millionths n ≡ number_text (n / 10 ^ 8) ++ 46 ∷ fraction 8 (n % 10 ^ 8)
  unfolding hundred_millionths
  whole-and-more h = rw (ne_eqb (n % 10 ^ 8) 0 h)

-- a Decimal below 0, and any other
module _ (z : ℤ) where
  pub amount-neg : lt_z z (pos 0) ≡ true → amount_text z ≡ 45 ∷ hundred_millionths (nat_abs z)
  unfolding amount_text
  amount-neg t =
      let e = is-neg z t in
      ap amount_text e ∙ sym (ap (λ (x : ℤ). 45 ∷ hundred_millionths (nat_abs x)) e)

  pub amount-pos : lt_z z (pos 0) ≡ false → amount_text z ≡ hundred_millionths (nat_abs z)
  unfolding amount_text
  amount-pos t =
      let e = is_pos z t in
      ap amount_text e ∙ sym (ap (λ (x : ℤ). hundred_millionths (nat_abs x)) e)
