-- A map's bits in the numbers that its bytes stand for, eight at a time; and the table of a set, held against the definitions by one test that is
-- computed.
use mathlib.Core.Path.{◌≡◌, refl, sym, ap, ap₂, subst, ◌∙◌}
use mathlib.Core.Bool.{Bool, true, false, cond, ◌&&◌}
use mathlib.Core.List.{List, [], ◌∷◌}
use Prim.Native.Nat.{ℕ, zero, suc, ◌+◌, ◌-◌, ◌*◌, ◌/◌, ◌%◌, ◌^◌, ◌≤◌, ◌<◌}
use native.Mathlib.Nat.{add_comm, zero-div, div-one}
use native.Mathlib.Omega.{arith}
use borrow.Author.Tests.{eqb-true, eqb-false, ltb-true, ltb-false}
use lib.Arith.{digits_div, digits_mod}
use lib.Bits.{bit_and, and_shr, and_mod, and_le_l}
use lib.Dec.{T, eqb, eqb→eq, ltb}
use lib.ListN.{get_or, take, drop}
use lib.Pow.{field, mod-mod-pow, shr-shr}
use lib.Seq.{get_or-take, get_or-drop}
use Rattle.wire.specs.Map.{bit_at, present}
use Rattle.wire.specs.Number.{Bytes, number}
use Rattle.wire.proofs.NumberLaws.{bytes_take, bytes_drop}
use Rattle.wire.proofs.MapLaws.{no-bit}
use Rattle.fields.specs.Words.{place, Holds, ClearFrom}

-- a bit below s is that of the number's s lowest bits
kept : (n s t : ℕ) → t < s → n % 2 ^ s / 2 ^ t % 2 ≡ n / 2 ^ t % 2
kept n s t h =
    let e : (s - t - 1) + 1 + t ≡ s = omega arith in
    rw e at (ap (λ (x : ℕ). x % 2) (field n ((s - t - 1) + 1) t) ∙ mod-mod-pow (n / 2 ^ t) (s - t - 1) 1)

-- byte i of a number
number-byte : (bs : List ℕ) (i : ℕ) → Bytes bs → number bs / 2 ^ (8 * i) % 256 ≡ get_or bs i 0
unfolding number
number-byte [] i h = ap (λ (x : ℕ). x % 256) (zero-div (2 ^ (8 * i)))
number-byte (b ∷ bs) zero h =
    ap (λ (x : ℕ). x % 256) (div-one (b + number bs * 256) ∙ add_comm b (number bs * 256)) ∙ digits_mod (number bs) (h zero)
number-byte (b ∷ bs) (suc i) h =
    let n = number bs in
    let e : 8 * suc i ≡ 8 + 8 * i = omega arith in
    ap (λ (k : ℕ). (b + n * 256) / 2 ^ k % 256) e
    ∙ ap (λ (x : ℕ). x % 256) (sym (shr-shr (b + n * 256) 8 (8 * i)))
    ∙ ap (λ (x : ℕ). x / 2 ^ (8 * i) % 256) (ap (λ (x : ℕ). x / 256) (add_comm b (n * 256)) ∙ digits_div n (h zero))
    ∙ number-byte bs i (λ k. h (suc k))

-- position p's bit of a map in the number of its first eight bytes
word-bit : (m : List ℕ) (p : ℕ) → Bytes m → p < 64 → number (take 8 m) / 2 ^ place p % 2 ≡ get_or m (p / 8) 0 / 2 ^ (7 - p % 8) % 2
word-bit m p h l =
    let i = p / 8 in
    let t = 7 - p % 8 in
    let n = number (take 8 m) in
    let u : i < 8 = omega arith in
    let v : t < 8 = omega arith in
    ap (λ (x : ℕ). x % 2) (sym (shr-shr n (8 * i) t))
    ∙ sym (kept (n / 2 ^ (8 * i)) 8 t v)
    ∙ ap (λ (x : ℕ). x / 2 ^ t % 2) (number-byte (take 8 m) i (bytes_take 8 m h) ∙ get_or-take 8 m i 0 u)

module _ (m : List ℕ) (b : Bytes m) (p : ℕ) (l : p < 64) where
  present-bit : present m p ≡ true → number (take 8 m) / 2 ^ place p % 2 ≡ 1
  unfolding present bit_at
  present-bit h = word-bit m p b l ∙ eqb-true _ 1 h

  bit-present : number (take 8 m) / 2 ^ place p % 2 ≡ 1 → present m p ≡ true
  unfolding present bit_at
  bit-present h = ap (λ (x : ℕ). eqb x 1) (sym (word-bit m p b l) ∙ h)

  -- a bit that no number shares is clear in the other
  pub apart : (u : ℕ) → bit_and (number (take 8 m)) u ≡ 0 → u / 2 ^ place p % 2 ≡ 1 → present m p ≡ false
  apart u e h = go (present m p) refl
    where
      go : (t : Bool) → present m p ≡ t → t ≡ false
      go false x = refl
      go true x =
          let n = number (take 8 m) in
          let k = place p in
          let z : bit_and n u / 2 ^ k % 2 ≡ 0 = ap (λ (y : ℕ). y / 2 ^ k % 2) e ∙ ap (λ (y : ℕ). y % 2) (zero-div (2 ^ k)) in
          let o : bit_and n u / 2 ^ k % 2 ≡ 1 =
          ap (λ (y : ℕ). y % 2) (and_shr n u k) ∙ and_mod (n / 2 ^ k) (u / 2 ^ k) 1 ∙ ap₂ bit_and (present-bit x) h in
          absurd (omega arith)

  -- a bit that a number shares whole is set
  pub shared : (q : ℕ) → bit_and (number (take 8 m)) q ≡ q → q / 2 ^ place p % 2 ≡ 1 → present m p ≡ true
  shared q e h =
      let n = number (take 8 m) in
      let k = place p in
      let o : bit_and (n / 2 ^ k % 2) (q / 2 ^ k % 2) ≡ 1 =
      sym (and_mod (n / 2 ^ k) (q / 2 ^ k) 1) ∙ ap (λ (y : ℕ). y % 2) (sym (and_shr n q k)) ∙ ap (λ (y : ℕ). y / 2 ^ k % 2) e ∙ h in
      let l : bit_and (n / 2 ^ k % 2) (q / 2 ^ k % 2) ≤ n / 2 ^ k % 2 = and_le_l (n / 2 ^ k % 2) (q / 2 ^ k % 2) in
      bit-present (omega arith)

-- a word of zeros is eight bytes of zeros
zero_word : (m : List ℕ) (k i : ℕ) → Bytes m → number (take 8 (drop k m)) ≡ 0 → i < 8 → get_or m (k + i) 0 ≡ 0
zero_word m k i b e h =
    sym (get_or-drop k m i 0) ∙ sym (get_or-take 8 (drop k m) i 0 h) ∙ sym (number-byte (take 8 (drop k m)) i (bytes_take 8 (drop k m) (bytes_drop k m b)))
    ∙ ap (λ (x : ℕ). x / 2 ^ (8 * i) % 256) e ∙ ap (λ (x : ℕ). x % 256) (zero-div (2 ^ (8 * i)))

-- three words of zeros
pub clear-from : (m : List ℕ) → Bytes m → number (take 8 (drop 8 m)) ≡ 0 → number (take 8 (drop 16 m)) ≡ 0 → number (take 8 (drop 24 m)) ≡ 0
    → ClearFrom 64 m
unfolding present
clear-from m b x y z = record { clear = λ p l u. ap (λ (v : ℕ). bit_at v (p % 8)) (at p l u) ∙ no-bit (p % 8) }
  where
    part : (k p : ℕ) → number (take 8 (drop k m)) ≡ 0 → k ≤ p / 8 → p / 8 < k + 8 → get_or m (p / 8) 0 ≡ 0
    part k p e l u =
        let q : k + (p / 8 - k) ≡ p / 8 = omega arith in
        ap (λ (j : ℕ). get_or m j 0) (sym q) ∙ zero_word m k (p / 8 - k) b e (omega arith)

    third : (p : ℕ) → 24 ≤ p / 8 → p < 256 → get_or m (p / 8) 0 ≡ 0
    third p l u = part 24 p z l (omega arith)

    at : (p : ℕ) → 64 ≤ p → p < 256 → get_or m (p / 8) 0 ≡ 0
    at p l u = go (ltb (p / 8) 16) (ltb (p / 8) 24) refl refl
      where
        go : (s t : Bool) → ltb (p / 8) 16 ≡ s → ltb (p / 8) 24 ≡ t → get_or m (p / 8) 0 ≡ 0
        go true t f g = part 8 p x (omega arith) (omega (arith, ltb-true (p / 8) 16 f))
        go false true f g = part 16 p y (ltb-false (p / 8) 16 f) (omega (arith, ltb-true (p / 8) 24 g))
        go false false f g = third p (ltb-false (p / 8) 24 g) u

-- the test of a set's number, each position below n
abbrev pub held : (ℕ → Bool) → ℕ → ℕ → Bool
held test w zero = true
held test w (suc p) = cond (test p) (eqb (w / 2 ^ place p % 2) 1) true && held test w p

two : (a b : Bool) → T (a && b) → T a × T b
two true b t = (tt, t)
two false b t = absurd t

one : (t b : Bool) → T (cond t b true) → t ≡ true → T b
one true b x e = x
one false b x e = let z : ◌≡◌ {A = ℕ} 0 1 = cc in absurd (omega arith)

-- the last position, or one before it
last : (test : ℕ → Bool) (w n p : ℕ) (b : Bool) → eqb p n ≡ b → T (cond (test n) (eqb (w / 2 ^ place n % 2) 1) true) → p < suc n → test p ≡ true
    → (p < n → w / 2 ^ place p % 2 ≡ 1) → w / 2 ^ place p % 2 ≡ 1
last test w n p true e x l h before =
    let q : n ≡ p = sym (eqb-true p n e) in
    subst (λ (k : ℕ). test k ≡ true → w / 2 ^ place k % 2 ≡ 1) q
    (λ g. eqb→eq _ 1 (one (test n) (eqb (w / 2 ^ place n % 2) 1) x g)) h
last test w n p false e x l h before = before (omega (arith, eqb-false p n e))

held_at : (test : ℕ → Bool) (w n : ℕ) → T (held test w n) → (p : ℕ) → p < n → test p ≡ true → w / 2 ^ place p % 2 ≡ 1
held_at test w zero t p l h = absurd (omega arith)
held_at test w (suc n) t p l h =
    let x = two (cond (test n) (eqb (w / 2 ^ place n % 2) 1) true) (held test w n) t in
    last test w n p (eqb p n) refl x.0 l h (λ u. held_at test w n x.1 p u h)

pub holds : (test : ℕ → Bool) (w : ℕ) → T (held test w 64) → Holds test w
holds test w t = record { set = held_at test w 64 t }

-- a number of 64 ones has every bit
all_ones : (p : ℕ) → p < 64 → 0xFFFFFFFFFFFFFFFF / 2 ^ place p % 2 ≡ 1
all_ones p l = held_at (λ k. true) 0xFFFFFFFFFFFFFFFF 64 tt p l refl

pub every-bit : (test : ℕ → Bool) → Holds test 0xFFFFFFFFFFFFFFFF
every-bit test = record { set = λ p l h. all_ones p l }
