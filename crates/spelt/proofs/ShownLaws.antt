-- A character as it is shown: the four ways of the code, and that none of them steers a terminal.
use Rattle.std.proofs.Common.{Result}
use mathlib.Core.Path.{◌≡◌, refl, sym, subst}
use mathlib.Core.Bool.{Bool, true, false, cond, ◌&&◌}
use mathlib.Core.List.{List, [], ◌∷◌, ◌++◌}
use Prim.Native.Nat.{ℕ, ◌+◌, ◌/◌, ◌%◌, ◌≤◌, ◌<◌}
use native.Mathlib.Omega.{arith}
use borrow.Author.Tests.{lt-ltb, le-ltb, ne_eqb, ltb-true, ltb-false, le-leb}
use lib.Dec.{eqb, leb, ltb}
use Rattle.wire.specs.declared.laying.NotLaid.{NotLaid}
use Rattle.wire.specs.declared.text.Allowed.TheVariants.{Ascii}
use Rattle.wire.specs.Laying.{laid, laid_answer}
use Rattle.wire.specs.Text.{is_character}
use Rattle.spelt.specs.Shown.{hex_digit, two_bytes, escaped, shown, Safe, ascii, sign, letter}

-- what is laid for a character is what it is shown as
pub shown-laid : (x : List ℕ) (b : ℕ) (d : List ℕ) (r : Result ℕ NotLaid) (y : List ℕ) → shown b ≡ x → (r ≡ laid_answer x d) × (y ≡ laid x d)
    → (r ≡ laid_answer (shown b) d) × (y ≡ laid (shown b) d)
shown-laid x b d r y e p = subst (λ (t : List ℕ). (r ≡ laid_answer t d) × (y ≡ laid t d)) (sym e) p

module _ (b : ℕ) where
  pub shown-backslash : b ≡ 92 → shown b ≡ 92 ∷ 92 ∷ []
  unfolding shown
  shown-backslash e = rw e refl

  module _ (n : b ≡ 92 → ⊥) where
    pub shown-itself : is_character Ascii b ≡ true → shown b ≡ b ∷ []
    unfolding shown
    shown-itself h = rw (ne_eqb b 92 n, h) refl

    pub shown-escaped : is_character Ascii b ≡ false → b < 160 → shown b ≡ escaped b
    unfolding shown
    shown-escaped h l = rw (ne_eqb b 92 n, h, lt-ltb b 160 l) refl

    pub shown-latin : is_character Ascii b ≡ false → 160 ≤ b → shown b ≡ two_bytes b
    unfolding shown
    shown-latin h l = rw (ne_eqb b 92 n, h, le-ltb b 160 l) refl

-- a hexadecimal digit is a character
digit-character : (n : ℕ) → n < 16 → is_character Ascii (hex_digit n) ≡ true
unfolding is_character hex_digit
digit-character n h = go (ltb n 10) refl
  where
    within : (m : ℕ) → 32 ≤ m → m ≤ 126 → leb 32 m && leb m 126 ≡ true
    within m a b = rw (le-leb 32 m a, le-leb m 126 b) refl

    go : (t : Bool) → ltb n 10 ≡ t → leb 32 (cond t (48 + n) (55 + n)) && leb (cond t (48 + n) (55 + n)) 126 ≡ true
    go true e = within (48 + n) (omega arith) (omega (arith, ltb-true n 10 e))
    go false e = within (55 + n) (omega arith) (omega arith)

-- one that Latin-1 shows, in two bytes, by its first
two-safe : (b : ℕ) (s : List ℕ) → 160 ≤ b → b ≤ 255 → Safe s → Safe ((192 + b / 64) ∷ (128 + b % 64) ∷ s)
two-safe b s l h r = go (ltb b 192) refl
  where
    go : (t : Bool) → ltb b 192 ≡ t → Safe ((192 + b / 64) ∷ (128 + b % 64) ∷ s)
    go true e =
        let n = ltb-true b 192 e in
        let p : 194 ≡ 192 + b / 64 = omega arith in
        subst (λ (x : ℕ). Safe (x ∷ (128 + b % 64) ∷ s)) p (sign (omega arith) (omega arith) r)
    go false e =
        let n = ltb-false b 192 e in
        let p : 195 ≡ 192 + b / 64 = omega arith in
        subst (λ (x : ℕ). Safe (x ∷ (128 + b % 64) ∷ s)) p (letter (omega arith) (omega arith) r)

-- whatever the byte, what is shown steers no terminal
pub shown-safe : (b : ℕ) (s : List ℕ) → b ≤ 255 → Safe s → Safe (shown b ++ s)
unfolding shown escaped two_bytes is_character
shown-safe b s h r = go (eqb b 92) (is_character Ascii b) (ltb b 160) refl refl
  where
    go : (p q t : Bool) → is_character Ascii b ≡ q → ltb b 160 ≡ t
        → Safe (cond p (92 ∷ 92 ∷ []) (cond q (b ∷ []) (cond t (escaped b) (two_bytes b))) ++ s)
    go true q t e f = ascii refl (ascii refl r)
    go false true t e f = ascii e r
    go false false true e f =
        ascii refl (ascii refl (ascii (digit-character (b / 16) (omega arith)) (ascii (digit-character (b % 16) (omega arith)) r)))
    go false false false e f = two-safe b s (ltb-false b 160 f) h r
