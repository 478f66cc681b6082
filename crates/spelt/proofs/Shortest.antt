-- The text of a Decimal is a decimal text that says it, and no decimal text that says it is shorter. Assumes nothing.
use mathlib.Core.Path.{◌≡◌, refl, sym, ap, ap₂, ◌∙◌}
use Prim.Native.Nat.{ℕ, zero, suc, ◌+◌, ◌-◌, ◌*◌, ◌/◌, ◌%◌, ◌^◌, ◌≤◌, ◌<◌}
use native.Mathlib.Nat.{
  one-le-pow,
  mod-lt,
  div-add-mod',
  pow-suc,
  pow-succ',
  div-lt_iff_lt-mul,
  add-mul,
  zero-mul,
  mul_assoc,
  mul_right_comm,
  mul-le-mul_right,
  le_of_mul-le-mul_right,
  lt_of_mul-lt-mul_right,
  eq_of_mul-eq-mul_right,
}
use native.Mathlib.Omega.{arith}
use mathlib.Core.Bool.{Bool, true, false, cond}
use mathlib.Core.List.{List, [], ◌∷◌, ◌++◌, append-nil}
use lib.Dec.{eqb, ltb}
use lib.IntN.{ℤ, pos, negsuc, nat_abs}
use lib.ListN.{length, length-append}
use borrow.Author.Tests.{eqb-true, eqb-false, ltb-true, ltb-false}
use Rattle.spelt.specs.Spelt.{digits, number_text, fraction, hundred_millionths, amount_text}
use Rattle.spelt.specs.Texts.{Digits, none, more, counted, Says, whole, pointed, DecimalText, plain, minus}

-- n / Q as a whole number and a part below it: n P = (a P + c) Q leaves (n - a Q) P = c Q
split : (n a c P Q : ℕ) → 0 < P → n * P ≡ (a * P + c) * Q → (a * Q ≤ n) × ((n - a * Q) * P ≡ c * Q)
split n a c P Q h e =
    let g : n * P ≡ a * Q * P + c * Q = e ∙ add-mul (a * P) c Q ∙ ap (λ (x : ℕ). x + c * Q) (mul_right_comm a P Q) in
    let low : a * Q ≤ n = le_of_mul-le-mul_right {k = P} (omega arith) h in
    let r : n ≡ a * Q + (n - a * Q) = omega arith in
    let m : n * P ≡ a * Q * P + (n - a * Q) * P = ap (λ (x : ℕ). x * P) r ∙ add-mul (a * Q) (n - a * Q) P in
    (low, omega arith)

-- digits count less than one more in front of them
counted-below : {w : List ℕ} → Digits w → (v : ℕ) → counted v w < (v + 1) * 10 ^ length w
unfolding counted
counted-below none v = omega arith
counted-below (more {b = b} {s = s} l h d) v =
    let P = 10 ^ length s in
    let k : counted (v * 10 + (b - 48)) s < (v * 10 + (b - 48) + 1) * P = counted-below d (v * 10 + (b - 48)) in
    let m : (v * 10 + (b - 48) + 1) * P ≤ (v + 1) * 10 * P = mul-le-mul_right P (omega arith) in
    rw (pow-succ' 10 (length s), ← mul_assoc (v + 1) 10 P) (omega arith)

counted-append : (w f : List ℕ) (v : ℕ) → counted v (w ++ f) ≡ counted (counted v w) f
unfolding counted
counted-append [] f v = refl
counted-append (b ∷ w) f v = counted-append w f (v * 10 + (b - 48))

counted-from : (f : List ℕ) (v : ℕ) → counted v f ≡ v * 10 ^ length f + counted 0 f
unfolding counted
counted-from [] v = omega arith
counted-from (b ∷ s) v =
    let P = 10 ^ length s in
    let d = b - 48 in
    let x : counted (v * 10 + d) s ≡ (v * 10 + d) * P + counted 0 s = counted-from s (v * 10 + d) in
    let y : counted (0 * 10 + d) s ≡ (0 * 10 + d) * P + counted 0 s = counted-from s (0 * 10 + d) in
    let u : (v * 10 + d) * P ≡ v * 10 * P + d * P = add-mul (v * 10) d P in
    let w : (0 * 10 + d) * P ≡ 0 * 10 * P + d * P = add-mul (0 * 10) d P in
    let z : 0 * 10 * P ≡ 0 = zero-mul P in
    rw (pow-succ' 10 (length s), ← mul_assoc v 10 P) (omega arith)

-- a number below 10 ^ j has at most j digits
digits-few : (k n j : ℕ) → n < 10 ^ j → 1 ≤ j → length (digits k n) ≤ j
unfolding digits
digits-few zero n j h l = omega arith
digits-few (suc k) n zero h l = absurd (omega arith)
digits-few (suc k) n (suc j) h l =
    go (ltb n 10) refl (λ i. digits-few k (n / 10) j ((div-lt_iff_lt-mul {k = 10} (omega arith)).1 (rw pow-suc at h)) i)
  where
    go : (b : Bool) → ltb n 10 ≡ b → (1 ≤ j → length (digits k (n / 10)) ≤ j)
        → length (cond b ((48 + n) ∷ []) (digits k (n / 10) ++ (48 + n % 10) ∷ [])) ≤ suc j
    go true e f = omega arith
    go false e f =
        let p : 1 ≤ j = few j (ltb-false n 10 e) h in
        rw length-append (omega (arith, f p))
      where
        few : (i : ℕ) → 10 ≤ n → n < 10 ^ suc i → 1 ≤ i
        few zero a c = absurd (omega arith)
        few (suc i) a c = omega arith

-- a fraction has no more digits than any that says the same
fraction-few : (k r j c : ℕ) → r < 10 ^ k → r * 10 ^ j ≡ c * 10 ^ k → length (fraction k r) ≤ j
unfolding fraction
fraction-few zero r j c h e = omega arith
fraction-few (suc k) r zero c h e = go (eqb r 0) refl
  where
    go : (b : Bool) → eqb r 0 ≡ b → length (cond b [] ((48 + r / 10 ^ k) ∷ fraction k (r % 10 ^ k))) ≤ 0
    go true t = omega arith
    go false t =
        let g : c * 10 ^ suc k < 1 * 10 ^ suc k = omega arith in
        let z : c < 1 = lt_of_mul-lt-mul_right (10 ^ suc k) g in
        let y : c * 10 ^ suc k ≡ 0 = ap (λ (x : ℕ). x * 10 ^ suc k) (omega arith) ∙ zero-mul (10 ^ suc k) in
        absurd (eqb-false r 0 t (omega arith))
fraction-few (suc k) r (suc j) c h e =
    let q = r / 10 ^ k in
    let p = r % 10 ^ k in
    let f : r * 10 ^ j ≡ c * 10 ^ k =
    eq_of_mul-eq-mul_right 10 (omega arith) (r * 10 ^ j) (c * 10 ^ k)
    (mul_assoc r (10 ^ j) 10 ∙ ap (λ (x : ℕ). r * x) (sym (pow-suc 10 j)) ∙ e ∙ ap (λ (x : ℕ). c * x) (pow-suc 10 k) ∙ sym (mul_assoc c (10 ^ k) 10)) in
    let g : c * 10 ^ k ≡ (q * 10 ^ k + p) * 10 ^ j = sym f ∙ ap (λ (x : ℕ). x * 10 ^ j) (sym (div-add-mod' r (10 ^ k))) in
    let one : 0 < 10 ^ k = one-le-pow k 10 (omega arith) in
    let v = split c q p (10 ^ k) (10 ^ j) one g in
    go (eqb r 0) (fraction-few k p j (c - q * 10 ^ j) (mod-lt r one) (sym v.1))
  where
    go : (b : Bool) → length (fraction k (r % 10 ^ k)) ≤ j → length (cond b [] ((48 + r / 10 ^ k) ∷ fraction k (r % 10 ^ k))) ≤ suc j
    go true i = omega arith
    go false i = omega arith

-- a whole number and a fraction below it
parts : (n a r : ℕ) → n ≡ a * 10 ^ 8 + r → r < 10 ^ 8 → (n / 10 ^ 8 ≡ a) × (n % 10 ^ 8 ≡ r)
parts n a r e h = (omega arith, omega arith)

-- the text without a sign
count-shortest : (n : ℕ) (t : List ℕ) → Says t n → length (hundred_millionths n) ≤ length t
unfolding hundred_millionths number_text
count-shortest n t (whole {w = w} d l e) =
    let x = parts n (counted 0 w) 0 (omega arith) (omega arith) in
    let few = digits-few 20 (counted 0 w) (length w) (omega (arith, counted-below d 0)) l in
    rw (x.0, x.1, length-append (digits 20 (counted 0 w)) []) (omega arith)
count-shortest n _ (pointed {w = w} {f = f} d l g m e) =
    let P = 10 ^ length f in
    let a = counted 0 w in
    let c = counted 0 f in
    let k : counted 0 (w ++ f) ≡ a * P + c = counted-append w f 0 ∙ counted-from f a in
    let one : 0 < P = one-le-pow (length f) 10 (omega arith) in
    let v = split n a c P (10 ^ 8) one (e ∙ ap (λ (x : ℕ). x * 10 ^ 8) k) in
    let r = n - a * 10 ^ 8 in
    let small : c < P = omega (arith, counted-below g 0) in
    let low : r * P < 10 ^ 8 * P = omega (arith, v.1) in
    let below : r < 10 ^ 8 = lt_of_mul-lt-mul_right P low in
    let x = parts n a r (omega (arith, v.0)) below in
    let few = digits-few 20 a (length w) (omega (arith, counted-below d 0)) l in
    let part = fraction-few 8 r (length f) c below v.1 in
    rw (x.0, x.1, length-append w (46 ∷ f), length-append (digits 20 a) (cond (eqb r 0) [] (46 ∷ fraction 8 r))) (go (eqb r 0) r few part)
  where
    go : (b : Bool) (r : ℕ) → length (digits 20 (counted 0 w)) ≤ length w → length (fraction 8 r) ≤ length f
        → length (digits 20 (counted 0 w)) + length (cond b [] (46 ∷ fraction 8 r)) ≤ length w + length (46 ∷ f)
    go true r i j = omega arith
    go false r i j = omega arith

-- no decimal text that says z is shorter than its text
pub amount-shortest : (z : ℤ) (t : List ℕ) → DecimalText t z → length (amount_text z) ≤ length t
unfolding amount_text
amount-shortest (pos n) t (plain m s e) =
    let q : n ≡ m = cc in
    rw q (count-shortest m t s)
amount-shortest (negsuc n) t (plain m s e) = let x : ◌≡◌ {A = ℕ} 0 1 = cc in absurd (omega arith)
amount-shortest (pos n) _ (minus {t = t} zero s e) =
    let q : n ≡ 0 = cc in
    let i = count-shortest 0 t s in
    rw q (omega arith)
amount-shortest (pos n) _ (minus {t = t} (suc m) s e) = let x : ◌≡◌ {A = ℕ} 0 1 = cc in absurd (omega arith)
amount-shortest (negsuc n) _ (minus {t = t} zero s e) = let x : ◌≡◌ {A = ℕ} 0 1 = cc in absurd (omega arith)
amount-shortest (negsuc n) _ (minus {t = t} (suc m) s e) =
    let q : n ≡ m = cc in
    let i = count-shortest (suc m) t s in
    rw q (omega arith)

-- one digit more at the end
digits-snoc : {s : List ℕ} {b : ℕ} → Digits s → 48 ≤ b → b ≤ 57 → Digits (s ++ b ∷ [])
digits-snoc none l h = more l h none
digits-snoc (more a c d) l h = more a c (digits-snoc d l h)

-- a number's text is digits, one at least, that count it
digits-digits : (k n : ℕ) → Digits (digits k n)
unfolding digits
digits-digits zero n = none
digits-digits (suc k) n = go (ltb n 10) refl (digits-digits k (n / 10))
  where
    go : (b : Bool) → ltb n 10 ≡ b → Digits (digits k (n / 10)) → Digits (cond b ((48 + n) ∷ []) (digits k (n / 10) ++ (48 + n % 10) ∷ []))
    go true e d = more {b = 48 + n} (omega arith) (omega (arith, ltb-true n 10 e)) none
    go false e d = digits-snoc {b = 48 + n % 10} d (omega arith) (omega arith)

digits-some : (k n : ℕ) → 1 ≤ length (digits (suc k) n)
unfolding digits
digits-some k n = go (ltb n 10)
  where
    go : (b : Bool) → 1 ≤ length (cond b ((48 + n) ∷ []) (digits k (n / 10) ++ (48 + n % 10) ∷ []))
    go true = omega arith
    go false = rw length-append (omega arith)

digits-counted : (k n : ℕ) → n < 10 ^ k → counted 0 (digits k n) ≡ n
unfolding digits counted
digits-counted zero n h = omega arith
digits-counted (suc k) n h = go (ltb n 10) (digits-counted k (n / 10) ((div-lt_iff_lt-mul {k = 10} (omega arith)).1 (rw pow-suc at h)))
  where
    go : (b : Bool) → counted 0 (digits k (n / 10)) ≡ n / 10 → counted 0 (cond b ((48 + n) ∷ []) (digits k (n / 10) ++ (48 + n % 10) ∷ [])) ≡ n
    go true e = omega arith
    go false e = counted-append (digits k (n / 10)) ((48 + n % 10) ∷ []) 0 ∙ rw e (omega (arith, div-add-mod' n 10))

-- a fraction is digits that count it
module _ (k r : ℕ) (h : r < 10 ^ suc k) where
  first-digit : r / 10 ^ k < 10
  first-digit = (div-lt_iff_lt-mul {k = 10 ^ k} (one-le-pow k 10 (omega arith))).1 (rw pow-succ' at h)

fraction-digits : (k r : ℕ) → r < 10 ^ k → Digits (fraction k r)
unfolding fraction
fraction-digits zero r h = none
fraction-digits (suc k) r h = go (eqb r 0) (fraction-digits k (r % 10 ^ k) (mod-lt r (one-le-pow k 10 (omega arith))))
  where
    go : (b : Bool) → Digits (fraction k (r % 10 ^ k)) → Digits (cond b [] ((48 + r / 10 ^ k) ∷ fraction k (r % 10 ^ k)))
    go true d = none
    go false d = more {b = 48 + r / 10 ^ k} (omega arith) (omega (arith, first-digit k r h)) d

fraction-counted : (k r : ℕ) → r < 10 ^ k → r * 10 ^ length (fraction k r) ≡ counted 0 (fraction k r) * 10 ^ k
unfolding fraction counted
fraction-counted zero r h = omega arith
fraction-counted (suc k) r h = go (eqb r 0) refl (fraction-counted k (r % 10 ^ k) (mod-lt r (one-le-pow k 10 (omega arith))))
  where
    go : (b : Bool) → eqb r 0 ≡ b → r % 10 ^ k * 10 ^ length (fraction k (r % 10 ^ k)) ≡ counted 0 (fraction k (r % 10 ^ k)) * 10 ^ k
        → r * 10 ^ length (cond b [] ((48 + r / 10 ^ k) ∷ fraction k (r % 10 ^ k))) ≡ counted 0 (cond b [] ((48 + r / 10 ^ k) ∷ fraction k (r % 10 ^ k))) * 10 ^ suc k
    go true t e = rw (eqb-true r 0 t) (sym (zero-mul (10 ^ suc k)))
    go false t e =
        let q = r / 10 ^ k in
        let f = fraction k (r % 10 ^ k) in
        let P = 10 ^ length f in
        let c = counted 0 f in
        let x : counted (0 * 10 + (48 + q - 48)) f ≡ q * P + c =
        ap (λ (v : ℕ). counted v f) (let y : 0 * 10 + (48 + q - 48) ≡ q = omega arith in y) ∙ counted-from f q in
        let y : r * P ≡ (q * P + c) * 10 ^ k =
        ap (λ (v : ℕ). v * P) (sym (div-add-mod' r (10 ^ k))) ∙ add-mul (q * 10 ^ k) (r % 10 ^ k) P ∙ ap₂ (λ (v w : ℕ). v + w) (mul_right_comm q (10 ^ k) P) e
        ∙ sym (add-mul (q * P) c (10 ^ k)) in
        ap (λ (v : ℕ). r * v) (pow-suc 10 (length f)) ∙ sym (mul_assoc r P 10) ∙ ap (λ (v : ℕ). v * 10) y ∙ mul_assoc (q * P + c) (10 ^ k) 10
        ∙ ap₂ (λ (v w : ℕ). v * w) (sym x) (sym (pow-suc 10 k))

fraction-some : (k r : ℕ) → eqb r 0 ≡ false → 1 ≤ length (fraction (suc k) r)
unfolding fraction
fraction-some k r e = rw e (omega arith)

-- the text without a sign says n, if twenty digits hold its whole number
count-says : (n : ℕ) → n < 10 ^ 28 → Says (hundred_millionths n) n
unfolding hundred_millionths number_text
count-says n h = go (eqb (n % 10 ^ 8) 0) refl
  where
    go : (b : Bool) → eqb (n % 10 ^ 8) 0 ≡ b → Says (digits 20 (n / 10 ^ 8) ++ cond b [] (46 ∷ fraction 8 (n % 10 ^ 8))) n
    go true t =
        let c = digits-counted 20 (n / 10 ^ 8) (omega arith) in
        rw append-nil (whole {n = n} (digits-digits 20 (n / 10 ^ 8)) (digits-some 19 (n / 10 ^ 8)) (rw c (omega (arith, eqb-true (n % 10 ^ 8) 0 t))))
    go false t =
        let w = digits 20 (n / 10 ^ 8) in
        let f = fraction 8 (n % 10 ^ 8) in
        let P = 10 ^ length f in
        let low : n % 10 ^ 8 < 10 ^ 8 = omega arith in
        let c : counted 0 (w ++ f) ≡ n / 10 ^ 8 * P + counted 0 f =
        counted-append w f 0 ∙ ap (λ (v : ℕ). counted v f) (digits-counted 20 (n / 10 ^ 8) (omega arith)) ∙ counted-from f (n / 10 ^ 8) in
        pointed (digits-digits 20 (n / 10 ^ 8)) (digits-some 19 (n / 10 ^ 8)) (fraction-digits 8 (n % 10 ^ 8) low) (fraction-some 7 (n % 10 ^ 8) t)
        (ap (λ (v : ℕ). v * P) (sym (div-add-mod' n (10 ^ 8))) ∙ add-mul (n / 10 ^ 8 * 10 ^ 8) (n % 10 ^ 8) P
        ∙ ap₂ (λ (v x : ℕ). v + x) (mul_right_comm (n / 10 ^ 8) (10 ^ 8) P) (fraction-counted 8 (n % 10 ^ 8) low)
        ∙ sym (add-mul (n / 10 ^ 8 * P) (counted 0 f) (10 ^ 8)) ∙ ap (λ (v : ℕ). v * 10 ^ 8) (sym c))

-- the text of every 64-bit Decimal is a decimal text that says it
pub amount-says : (z : ℤ) → nat_abs z < 2 ^ 64 → DecimalText (amount_text z) z
unfolding amount_text
amount-says (pos n) h = plain n (count-says n (omega arith)) refl
amount-says (negsuc n) h = minus (suc n) (count-says (suc n) (omega arith)) refl
