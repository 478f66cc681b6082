-- A line's parts: a text at the front, byte by byte; a number, digit by digit, which past 32 bits may stand for any other such number;
-- and that nothing of a line tells such numbers apart.
use mathlib.Core.Path.{◌≡◌, refl, sym, ap, ap₂, ◌∙◌, fun_ext}
use Prim.Native.Nat.{ℕ, zero, suc, ◌+◌, ◌-◌, ◌*◌, ◌<◌, ◌≤◌}
use native.Mathlib.Numerals.{add-one}
use native.Mathlib.Omega.{arith}
use mathlib.Core.Bool.{Bool, true, false, cond, ◌&&◌}
use mathlib.Core.List.{List, [], ◌∷◌}
use lib.Dec.{leb, eqb}
use lib.ListN.{length, get_or, take, drop, length-drop}
use lib.Seq.{drop-cons}
use lib.Pointwise.{pointwise}
use Rattle.std.proofs.lemmas.Grind.{common_steps}
use borrow.Author.Tests.{eq-eqb, ne_eqb, le-leb, lt-leb, leb-true, leb-false}
use Rattle.wire.proofs.TestLaws.{both}
use Rattle.sheet.specs.declared.line.Kind.{Kind}
use Rattle.sheet.specs.declared.line.Kind.TheVariants.{Logon, Business, GapFill, Reset}
use Rattle.std.specs.Prelude.{Option, Some, None}
use Rattle.sheet.specs.declared.line.Line.{Line}
use Rattle.sheet.specs.Line.{begins, after, is_digit, digits_from, number, most_new, line_of}
use Rattle.sheet.specs.Capped.{capped, with_digit, Blind, NumberRead, Has, HasNone}

-- a text compared byte by byte, as the library compares it
eqb-swap : (b c : ℕ) → eqb b c ≡ eqb c b
eqb-swap b c = grind (arith, common_steps)

and-cond : (t u : Bool) → (t && u) ≡ cond t u false
and-cond true u = refl
and-cond false u = refl

begins-prefix : (w s : List ℕ) → pointwise eqb (take (length w) s) w ≡ begins w s
unfolding begins
begins-prefix [] s = refl
begins-prefix (c ∷ w) [] = refl
begins-prefix (c ∷ w) (b ∷ s) = and-cond (eqb b c) (pointwise eqb (take (length w) s) w) ∙ ap₂ (λ (t u : Bool). cond t u false) (eqb-swap b c) (begins-prefix w s)

pub begins-by : (w s : List ℕ) (t : Bool) → pointwise eqb (take (length w) s) w ≡ t → begins w s ≡ t
begins-by w s t e = sym (begins-prefix w s) ∙ e

pub digit-range : (b : ℕ) → is_digit b ≡ true → (48 ≤ b) × (b ≤ 57)
unfolding is_digit
digit-range b e =
    let t = both (leb 48 b) (leb b 57) e in
    (leb-true 48 b t.0, leb-true b 57 t.1)

module _ (n : ℕ) where
  pub capped-in : n ≤ 4294967295 → capped n ≡ n
  unfolding capped
  capped-in h = rw (le-leb n 4294967295 h)

  pub capped-past : 4294967295 < n → capped n ≡ 4294967296
  unfolding capped
  capped-past h = rw (lt-leb n 4294967295 h)

  pub capped-most : capped n ≤ 4294967296
  unfolding capped
  capped-most = go (leb n 4294967295) refl where
    go : (t : Bool) → leb n 4294967295 ≡ t → cond t n 4294967296 ≤ 4294967296
    go true e = omega (arith, leb-true n 4294967295 e)
    go false e = omega arith

-- what follows a number sees only its first 32 bits
module _ (rest : ℕ → List ℕ → Option Line) (blind : Blind rest) where
  digits-blind : (m n : ℕ) (s : List ℕ) → 4294967295 < m → 4294967295 < n → digits_from m rest s ≡ digits_from n rest s
  unfolding digits_from
  digits-blind m n [] a b = blind m n [] a b
  digits-blind m n (x ∷ s) a b =
      ap₂ (cond (is_digit x)) (digits-blind (m * 10 + (x - 48)) (n * 10 + (x - 48)) s (omega arith) (omega arith)) (blind m n (x ∷ s) a b)

  digits-capped : (n : ℕ) (s : List ℕ) → digits_from (capped n) rest s ≡ digits_from n rest s
  digits-capped n s = go (leb n 4294967295) refl where
    go : (t : Bool) → leb n 4294967295 ≡ t → digits_from (capped n) rest s ≡ digits_from n rest s
    go true e = ap (λ (m : ℕ). digits_from m rest s) (capped-in n (leb-true n 4294967295 e))
    go false e =
        let h : 4294967295 < n = leb-false n 4294967295 e in
        ap (λ (m : ℕ). digits_from m rest s) (capped-past n h) ∙ digits-blind 4294967296 n s (omega arith) h

-- i digits of s are read, and their value is kept
pub record Reading (s : List ℕ) (value i : ℕ) : Type 0 where
  pub within : i ≤ length s
  pub small : value ≤ 4294967296
  pub led : 0 < i → is_digit (get_or s 0 0) ≡ true
  pub same : (rest : ℕ → List ℕ → Option Line) → Blind rest → digits_from value rest (drop i s) ≡ digits_from 0 rest s

pub reading-none : (s : List ℕ) → Reading s 0 0
reading-none s = record { within = omega arith; small = omega arith; led = λ h. absurd (omega arith); same = λ rest b. refl }

number-some : (rest : ℕ → List ℕ → Option Line) (s : List ℕ) → 0 < length s → is_digit (get_or s 0 0) ≡ true → number rest s ≡ digits_from 0 rest s
unfolding number
number-some rest [] l d = absurd (omega arith)
number-some rest (b ∷ s) l d = rw d

number-none : (rest : ℕ → List ℕ → Option Line) (s : List ℕ) → (0 < length s → is_digit (get_or s 0 0) ≡ false) → number rest s ≡ None
unfolding number
number-none rest [] d = refl
number-none rest (b ∷ s) d = let e : is_digit b ≡ false = d (omega arith) in rw e

module _ (s : List ℕ) (value i : ℕ) (r : Reading s value i) where
  pub reading-more : i < length s → is_digit (get_or s i 0) ≡ true → Reading s (with_digit value (get_or s i 0)) (i + 1)
  unfolding with_digit digits_from
  reading-more h d = record {
    within = omega arith;
    small = capped-most (value * 10 + (get_or s i 0 - 48));
    led = λ p. go i refl;
    same = λ rest b. digits-capped rest b (value * 10 + (get_or s i 0 - 48)) (drop (i + 1) s) ∙ sym (step rest) ∙ r.same rest b;
  } where
    go : (k : ℕ) → k ≡ i → is_digit (get_or s 0 0) ≡ true
    go zero e = ap (λ (k : ℕ). is_digit (get_or s k 0)) e ∙ d
    go (suc k) e = r.led (omega arith)

    step : (rest : ℕ → List ℕ → Option Line) → digits_from value rest (drop i s) ≡ digits_from (value * 10 + (get_or s i 0 - 48)) rest (drop (i + 1) s)
    step rest = rw (add-one i, drop-cons s i 0, d)

  -- the digits end: by another byte, or with the bytes
  module _ (stops : i < length s → is_digit (get_or s i 0) ≡ false) where
    digits-stop : (rest : ℕ → List ℕ → Option Line) → digits_from value rest (drop i s) ≡ rest value (drop i s)
    unfolding digits_from
    digits-stop rest = go (drop i s) refl where
      go : (t : List ℕ) → drop i s ≡ t → digits_from value rest t ≡ rest value t
      go [] e = refl
      go (b ∷ t) e =
          let l : i < length s = omega (arith, ap length e, length-drop i s) in
          let q : b ≡ get_or s i 0 = ap (λ (x : List ℕ). get_or x 0 0) (sym e ∙ drop-cons s i 0 l) in
          let f : is_digit b ≡ false = ap is_digit q ∙ stops l in
          rw f

    pub reading-ends : NumberRead s value i
    reading-ends = record { within = r.within; says = λ rest b. go rest b i refl } where
      go : (rest : ℕ → List ℕ → Option Line) → Blind rest → (k : ℕ) → k ≡ i → number rest s ≡ cond (eqb i 0) None (rest value (drop i s))
      go rest b zero e =
          number-none rest s (λ l. ap (λ (j : ℕ). is_digit (get_or s j 0)) e ∙ stops (omega arith)) ∙ rw (eq-eqb i 0 (sym e))
      go rest b (suc k) e =
          let p : 0 < i = omega arith in
          let n : i ≡ 0 → ⊥ = λ z. omega arith in
          number-some rest s (omega (arith, r.within)) (r.led p) ∙ sym (r.same rest b) ∙ digits-stop rest ∙ rw (ne_eqb i 0 n)

-- a number or none, by how many digits were read
module _ (s : List ℕ) (value digits : ℕ) (r : NumberRead s value digits) where
  pub number-bad : digits ≡ 0 → HasNone s
  number-bad z rest blind = r.says rest blind ∙ rw (eq-eqb digits 0 z)

  pub number-good : (digits ≡ 0 → ⊥) → Has s value (drop digits s)
  number-good n rest blind = r.says rest blind ∙ rw (ne_eqb digits 0 n)

-- what follows a text
module _ (w : List ℕ) (rest : List ℕ → Option Line) (s : List ℕ) where
  pub after-bad : pointwise eqb (take (length w) s) w ≡ false → after w rest s ≡ None
  unfolding after
  after-bad e = rw (begins-by w s false e)

  pub after-good : pointwise eqb (take (length w) s) w ≡ true → (t : List ℕ) → t ≡ drop (length w) s → after w rest s ≡ rest t
  unfolding after
  after-good e t q = rw (begins-by w s true e) (ap rest (sym q))

pub most-new-most : (kind : Kind) → most_new kind ≤ 4294967295
unfolding most_new
most-new-most Logon = omega arith
most-new-most Business = omega arith
most-new-most GapFill = omega arith
most-new-most Reset = omega arith

same-both : (a : Bool) (x : Option Line) → cond a x x ≡ x
same-both true x = refl
same-both false x = refl

-- what makes a line bad, and what makes it good
module _ (kind : Kind) (n dup new : ℕ) where
  pub line-longer : (s : List ℕ) → (length s ≡ 0 → ⊥) → line_of kind n dup new s ≡ None
  unfolding line_of
  line-longer [] h = absurd (h refl)
  line-longer (b ∷ s) h = refl

  pub n-zero : (s : List ℕ) → n < 1 → line_of kind n dup new s ≡ None
  unfolding line_of
  n-zero [] h = simp (lt-leb 1 n h)
  n-zero (b ∷ s) h = refl

  pub n-past : (s : List ℕ) → 4294967295 < n → line_of kind n dup new s ≡ None
  unfolding line_of
  n-past [] h = simp (lt-leb n 4294967295 h, same-both)
  n-past (b ∷ s) h = refl

  pub dup-past : (s : List ℕ) → 1 < dup → line_of kind n dup new s ≡ None
  unfolding line_of
  dup-past [] h = simp (lt-leb dup 1 h, same-both)
  dup-past (b ∷ s) h = refl

  pub new-past : (s : List ℕ) → most_new kind < new → line_of kind n dup new s ≡ None
  unfolding line_of
  new-past [] h = simp (lt-leb new (most_new kind) h, same-both)
  new-past (b ∷ s) h = refl

  pub line-good : (s : List ℕ) → length s ≡ 0 → 1 ≤ n → n ≤ 4294967295 → dup ≤ 1 → new ≤ most_new kind
      → line_of kind n dup new s ≡ Some (record { kind = kind; n = n; dup = dup; new = new })
  unfolding line_of
  line-good [] e a b c d = rw (le-leb 1 n a, le-leb n 4294967295 b, le-leb dup 1 c, le-leb new (most_new kind) d)
  line-good (x ∷ s) e a b c d = absurd (omega arith)

-- each number of a line is bad past 32 bits, whatever stands after it
pub new-blind : (kind : Kind) (n dup : ℕ) → Blind (line_of kind n dup)
new-blind kind n dup x y s a b =
    let m = most-new-most kind in
    new-past kind n dup x s (omega arith) ∙ sym (new-past kind n dup y s (omega arith))

-- w stands between the numbers
pub dup-blind : (w : List ℕ) (kind : Kind) (n : ℕ) → Blind (λ dup. after w (number (line_of kind n dup)))
dup-blind w kind n x y s a b =
    let l : 1 < x = omega arith in
    let m : 1 < y = omega arith in
    ap (λ (f : ℕ → List ℕ → Option Line). after w (number f) s) (fun_ext (λ new. fun_ext (λ t. dup-past kind n x new t l ∙ sym (dup-past kind n y new t m))))

pub n-blind : (v w : List ℕ) (kind : Kind) → Blind (λ n. after v (number (λ dup. after w (number (line_of kind n dup)))))
n-blind v w kind x y s a b =
    ap (λ (f : ℕ → ℕ → List ℕ → Option Line). after v (number (λ dup. after w (number (f dup)))) s) (fun_ext (λ dup. fun_ext (λ new. fun_ext (λ t. n-past kind x dup new t a ∙ sym (n-past kind y dup new t b)))))

-- a number, the text w, and what follows
module _ (w : List ℕ) (f : ℕ → List ℕ → Option Line) (blind : Blind (λ v. after w (f v))) (s : List ℕ) where
  pub follows-none : HasNone s → number (λ v. after w (f v)) s ≡ None
  follows-none h = h (λ v. after w (f v)) blind

  module _ (value : ℕ) (tail : List ℕ) (h : Has s value tail) where
    pub follows-bad : pointwise eqb (take (length w) tail) w ≡ false → number (λ v. after w (f v)) s ≡ None
    follows-bad e = h (λ v. after w (f v)) blind ∙ after-bad w (f value) tail e

    pub follows-good : pointwise eqb (take (length w) tail) w ≡ true → (t : List ℕ) → t ≡ drop (length w) tail → number (λ v. after w (f v)) s ≡ f value t
    follows-good e t q = h (λ v. after w (f v)) blind ∙ after-good w (f value) tail e t q
