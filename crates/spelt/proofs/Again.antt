-- The text of a number and that of a Decimal read back: no two 64-bit values have the same text.
use mathlib.Core.Path.{◌≡◌, refl, sym, ap, ap₂, ◌∙◌}
use Prim.Native.Nat.{ℕ, zero, suc, ◌+◌, ◌-◌, ◌*◌, ◌/◌, ◌%◌, ◌^◌, ◌<◌}
use native.Mathlib.Nat.{one-le-pow, mod-lt, div-add-mod', pow-suc, div-lt_iff_lt-mul}
use native.Mathlib.Omega.{arith}
use mathlib.Core.Bool.{Bool, true, false, cond}
use mathlib.Core.List.{List, [], ◌∷◌, ◌++◌, append_assoc, append-nil}
use lib.Dec.{eqb, ltb}
use lib.IntN.{ℤ, pos, negsuc, neg_ℤ, nat_abs}
use borrow.Author.Tests.{eqb-true, ne_eqb}
use Rattle.spelt.specs.Spelt.{digits, number_text, fraction, hundred_millionths, amount_text}

-- what the digits after a point count, k at most
unfoldable pub fraction_read : ℕ → List ℕ → ℕ
fraction_read k [] = 0
fraction_read zero (b ∷ s) = 0
fraction_read (suc k) (b ∷ s) = (b - 48) * 10 ^ k + fraction_read k s

-- what a text without a sign counts, in hundred-millionths, behind digits that say v
unfoldable pub count_read : ℕ → List ℕ → ℕ
count_read v [] = v * 10 ^ 8
count_read v (b ∷ s) = cond (eqb b 46) (v * 10 ^ 8 + fraction_read 8 s) (count_read (v * 10 + (b - 48)) s)

-- what a text counts
unfoldable pub amount_read : List ℕ → ℤ
amount_read [] = pos 0
amount_read (b ∷ s) = cond (eqb b 45) (neg_ℤ (pos (count_read 0 s))) (pos (count_read 0 (b ∷ s)))

-- a fraction reads back
fraction-again : (k n : ℕ) → n < 10 ^ k → fraction_read k (fraction k n) ≡ n
unfolding fraction fraction_read
fraction-again zero n h = omega arith
fraction-again (suc k) n h = either (eqb n 0) refl (fraction-again k (n % 10 ^ k) (mod-lt n (one-le-pow k 10 (omega arith))))
  where
    either : (b : Bool) → eqb n 0 ≡ b → fraction_read k (fraction k (n % 10 ^ k)) ≡ n % 10 ^ k
        → fraction_read (suc k) (cond b [] ((48 + n / 10 ^ k) ∷ fraction k (n % 10 ^ k))) ≡ n
    either true e r = sym (eqb-true n 0 e)
    either false e r =
        let s : 48 + n / 10 ^ k - 48 ≡ n / 10 ^ k = omega arith in
        ap₂ (λ (x y : ℕ). x * 10 ^ k + y) s r ∙ div-add-mod' n (10 ^ k)

-- a digit before the point
digit-read : (v x : ℕ) (r : List ℕ) → count_read v ((48 + x) ∷ r) ≡ count_read (v * 10 + x) r
unfolding count_read
digit-read v x r =
    let s : 48 + x - 48 ≡ x = omega arith in
    rw (ne_eqb (48 + x) 46 (λ e. omega arith), s)

-- and all of them
digits-again : (k n : ℕ) (r : List ℕ) → n < 10 ^ k → count_read 0 (digits k n ++ r) ≡ count_read n r
unfolding digits
digits-again zero n r h =
    let e : 0 ≡ n = omega arith in
    ap (λ (v : ℕ). count_read v r) e
digits-again (suc k) n r h =
    let g : n / 10 < 10 ^ k = (div-lt_iff_lt-mul {k = 10} (omega arith)).1 (rw pow-suc at h) in
    either (ltb n 10) (λ s. digits-again k (n / 10) s g)
  where
    either : (b : Bool) → ((s : List ℕ) → count_read 0 (digits k (n / 10) ++ s) ≡ count_read (n / 10) s)
        → count_read 0 (cond b ((48 + n) ∷ []) (digits k (n / 10) ++ (48 + n % 10) ∷ []) ++ r) ≡ count_read n r
    either true f =
        let e : 0 * 10 + n ≡ n = omega arith in
        digit-read 0 n r ∙ ap (λ (v : ℕ). count_read v r) e
    either false f =
        ap (count_read 0) (append_assoc (digits k (n / 10)) ((48 + n % 10) ∷ []) r) ∙ f ((48 + n % 10) ∷ r) ∙ digit-read (n / 10) (n % 10) r
        ∙ ap (λ (v : ℕ). count_read v r) (div-add-mod' n 10)

-- a count reads back, if twenty digits hold its whole number
count-again : (n : ℕ) → n < 10 ^ 28 → count_read 0 (hundred_millionths n) ≡ n
unfolding hundred_millionths number_text count_read
count-again n h =
    digits-again 20 (n / 10 ^ 8) (cond (eqb (n % 10 ^ 8) 0) [] (46 ∷ fraction 8 (n % 10 ^ 8))) (omega arith) ∙ either (eqb (n % 10 ^ 8) 0) refl
  where
    either : (b : Bool) → eqb (n % 10 ^ 8) 0 ≡ b → count_read (n / 10 ^ 8) (cond b [] (46 ∷ fraction 8 (n % 10 ^ 8))) ≡ n
    either true e = omega (arith, eqb-true (n % 10 ^ 8) 0 e)
    either false e =
        ap (λ (x : ℕ). n / 10 ^ 8 * 10 ^ 8 + x) (fraction-again 8 (n % 10 ^ 8) (omega arith)) ∙ div-add-mod' n (10 ^ 8)

-- a text that begins with a digit has no sign
digit-first : (x : ℕ) (r : List ℕ) → amount_read ((48 + x) ∷ r) ≡ pos (count_read 0 ((48 + x) ∷ r))
unfolding amount_read
digit-first x r = rw (ne_eqb (48 + x) 45 (λ e. omega arith))

either_first : (k n : ℕ) (r : List ℕ) (b : Bool)
    → amount_read (digits k (n / 10) ++ (48 + n % 10) ∷ r) ≡ pos (count_read 0 (digits k (n / 10) ++ (48 + n % 10) ∷ r))
    → amount_read (cond b ((48 + n) ∷ []) (digits k (n / 10) ++ (48 + n % 10) ∷ []) ++ r)
    ≡ pos (count_read 0 (cond b ((48 + n) ∷ []) (digits k (n / 10) ++ (48 + n % 10) ∷ []) ++ r))
either_first k n r true f = digit-first n r
either_first k n r false f = rw append_assoc f

digits-first : (k n : ℕ) (r : List ℕ) → amount_read (digits (suc k) n ++ r) ≡ pos (count_read 0 (digits (suc k) n ++ r))
unfolding digits
digits-first zero n r = either_first 0 n r (ltb n 10) (digit-first (n % 10) r)
digits-first (suc k) n r = either_first (suc k) n r (ltb n 10) (digits-first k (n / 10) ((48 + n % 10) ∷ r))

-- a number reads back, as a count of hundred-millionths
pub number-again : (n : ℕ) → n < 2 ^ 64 → count_read 0 (number_text n) ≡ n * 10 ^ 8
unfolding number_text count_read
number-again n h = ap (count_read 0) (sym (append-nil (digits 20 n))) ∙ digits-again 20 n [] (omega arith)

-- and so does a Decimal
pub amount-again : (z : ℤ) → nat_abs z < 2 ^ 64 → amount_read (amount_text z) ≡ z
unfolding amount_text amount_read hundred_millionths number_text
amount-again (pos n) h = digits-first 19 (n / 10 ^ 8) _ ∙ ap pos (count-again n (omega arith))
amount-again (negsuc n) h = ap (λ (x : ℕ). neg_ℤ (pos x)) (count-again (suc n) (omega arith))

-- one text, one value
pub number_same : (m n : ℕ) → m < 2 ^ 64 → n < 2 ^ 64 → number_text m ≡ number_text n → m ≡ n
number_same m n g h e = omega (arith, sym (number-again m g) ∙ ap (count_read 0) e ∙ number-again n h)

pub amount-same : (z w : ℤ) → nat_abs z < 2 ^ 64 → nat_abs w < 2 ^ 64 → amount_text z ≡ amount_text w → z ≡ w
amount-same z w g h e = sym (amount-again z g) ∙ ap amount_read e ∙ amount-again w h
