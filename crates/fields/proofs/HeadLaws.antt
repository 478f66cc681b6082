-- A map's positions as one number: what its eight bytes make, and how a loop takes the positions out of it one by one.
use mathlib.Core.Path.{◌≡◌, refl, sym, ap, ap₂, subst, ◌∙◌}
use mathlib.Core.Bool.{Bool, true, false, cond}
use mathlib.Core.List.{List, [], ◌∷◌, ◌++◌, append-nil}
use Prim.Native.Nat.{ℕ, zero, suc, ◌+◌, ◌-◌, ◌*◌, ◌/◌, ◌%◌, ◌^◌, ◌≤◌, ◌<◌}
use native.Mathlib.Nat.{mod-one, mod-eq_of_lt, pow-suc, zero-add, zero-mul, one-mul, add-mul}
use native.Mathlib.Omega.{arith}
use lib.Bits.{bit_and, and_mask}
use lib.Count.{count_leading_zeros, leading_unique}
use lib.ListN.{length, get_or}
use lib.Pow.{pow_pos, pow-add, ones_split, ones_lt, high, low}
use borrow.Author.Tests.{eqb-true, eqb-false, le-leb, lt-leb}
use Rattle.wire.specs.Map.{bit_at, present}
use Rattle.wire.proofs.MapLaws.{present-at, with-place}
use Rattle.wire.specs.Number.{Bytes}
use Rattle.fields.specs.Words.{ClearFrom}
use Rattle.fields.specs.Cut.{positions, word_of, head_of}
use Rattle.fields.proofs.PositionLaws.{later, later-set, later-clear, later-end, later-none, positions-split}

-- a list of positions and then another
word-append : (ps qs : List ℕ) → word_of (ps ++ qs) ≡ word_of ps + word_of qs
unfolding word_of
word-append [] qs = sym (zero-add (word_of qs))
word-append (p ∷ ps) qs = omega (arith, word-append ps qs)

-- 0 is the number of no position
word_none : (ps : List ℕ) → word_of ps ≡ 0 → ps ≡ []
unfolding word_of
word_none [] e = refl
word_none (p ∷ ps) e = let h : 0 < 2 ^ (63 - p) = pow_pos (63 - p) in absurd (omega arith)

module _ (m : List ℕ) where
  small-step : (b : Bool) (n k : ℕ) (ps : List ℕ) → k + suc n ≡ 64 → word_of ps < 2 ^ n → word_of (cond b (k ∷ ps) ps) < 2 ^ suc n
  unfolding word_of
  small-step true n k ps e h = let q : 63 - k ≡ n = omega arith in rw q (omega (arith, pow-suc 2 n))
  small-step false n k ps e h = omega (arith, pow-suc 2 n)

  -- the n last positions make a number of n bits
  word_small : (n k : ℕ) → k + n ≡ 64 → word_of (positions m n k) < 2 ^ n
  unfolding positions word_of
  word_small zero k e = omega arith
  word_small (suc n) k e =
      small-step (present m k) n k (positions m n (suc k)) e (word_small n (suc k) (omega arith))

  count-step : (b : Bool) (n k : ℕ) (ps : List ℕ) → length ps ≤ n → length (cond b (k ∷ ps) ps) ≤ suc n
  count-step true n k ps h = omega arith
  count-step false n k ps h = omega arith

  -- there are no more set positions than positions
  pub positions-count : (n k : ℕ) → length (positions m n k) ≤ n
  unfolding positions
  positions-count zero k = omega arith
  positions-count (suc n) k = count-step (present m k) n k (positions m n (suc k)) (positions-count n (suc k))

  -- where none from 64 on is set, the first 64 are all
  pub positions-low : ClearFrom 64 m → positions m 256 0 ≡ positions m 64 0
  positions-low h =
      positions-split m 64 192 0 ∙ ap (λ (ps : List ℕ). positions m 64 0 ++ ps) (later-none m 64 (omega arith) h) ∙ append-nil (positions m 64 0)

-- one bit more of a number
-- byte i of a map in the number
module _ (m : List ℕ) (i : ℕ) where
  byte_step : (t : Bool) (n : ℕ) (ps : List ℕ) → i < 8 → n < 8 → bit_at (get_or m i 0) (7 - n) ≡ t
      → word_of ps ≡ get_or m i 0 % 2 ^ n * 2 ^ (56 - i * 8)
      → word_of (cond t ((i * 8 + (7 - n)) ∷ ps) ps) ≡ get_or m i 0 % 2 ^ suc n * 2 ^ (56 - i * 8)
  unfolding word_of bit_at
  byte_step true n ps l u t h =
      let b = get_or m i 0 in
      let c = 56 - i * 8 in
      let q : 7 - (7 - n) ≡ n = omega arith in
      let e : 63 - (i * 8 + (7 - n)) ≡ n + c = omega arith in
      let o : b / 2 ^ n % 2 ≡ 1 = rw q at (eqb-true (b / 2 ^ (7 - (7 - n)) % 2) 1 t) in
      let w : b % 2 ^ suc n ≡ 2 ^ n + b % 2 ^ n = omega (arith, with-place b n 1 o) in
      ap₂ (λ (x y : ℕ). x + y) (ap (λ (k : ℕ). 2 ^ k) e ∙ pow-add 2 n c) h ∙ sym (add-mul (2 ^ n) (b % 2 ^ n) (2 ^ c)) ∙ ap (λ (x : ℕ). x * 2 ^ c) (sym w)
  byte_step false n ps l u t h =
      let b = get_or m i 0 in
      let q : 7 - (7 - n) ≡ n = omega arith in
      let o : b / 2 ^ n % 2 ≡ 1 → ⊥ = rw q at (eqb-false (b / 2 ^ (7 - (7 - n)) % 2) 1 t) in
      let w : b % 2 ^ suc n ≡ b % 2 ^ n = omega (arith, with-place b n 0 (omega arith)) in
      h ∙ ap (λ (x : ℕ). x * 2 ^ (56 - i * 8)) (sym w)

  -- its last n places
  byte-from : (n : ℕ) → i < 8 → n ≤ 8 → word_of (positions m n (i * 8 + (8 - n))) ≡ get_or m i 0 % 2 ^ n * 2 ^ (56 - i * 8)
  unfolding positions word_of
  byte-from zero l u = sym (ap (λ (x : ℕ). x * 2 ^ (56 - i * 8)) (mod-one (get_or m i 0)) ∙ zero-mul (2 ^ (56 - i * 8)))
  byte-from (suc n) l u =
      let e : 8 - suc n ≡ 7 - n = omega arith in
      let s : suc (i * 8 + (7 - n)) ≡ i * 8 + (8 - n) = omega arith in
      let p = present-at m i (7 - n) (omega arith) in
      rw (e, s, p)
      (byte_step (bit_at (get_or m i 0) (7 - n)) n (positions m n (i * 8 + (8 - n))) l (omega arith) refl (byte-from n l (omega arith)))

  -- all of it
  byte_word : Bytes m → i < 8 → word_of (positions m 8 (i * 8)) ≡ get_or m i 0 * 2 ^ (56 - i * 8)
  byte_word h l =
      let z : i * 8 + (8 - 8) ≡ i * 8 = omega arith in
      ap (λ (k : ℕ). word_of (positions m 8 k)) (sym z) ∙ byte-from 8 l (omega arith) ∙ ap (λ (x : ℕ). x * 2 ^ (56 - i * 8)) (mod-eq_of_lt (h i))

-- n bytes from byte i on, the first the highest
abbrev digits : List ℕ → ℕ → ℕ → ℕ
digits m zero i = 0
digits m (suc n) i = get_or m i 0 * 2 ^ (n * 8) + digits m n (suc i)

-- the last n bytes of eight are the number of their positions
bytes_word : (m : List ℕ) (n i : ℕ) → Bytes m → i + n ≡ 8 → word_of (positions m (n * 8) (i * 8)) ≡ digits m n i
unfolding positions word_of
bytes_word m zero i h e = refl
bytes_word m (suc n) i h e =
    let a : suc n * 8 ≡ 8 + n * 8 = omega arith in
    let s : i * 8 + 8 ≡ suc i * 8 = omega arith in
    let c : 56 - i * 8 ≡ n * 8 = omega arith in
    ap (λ (k : ℕ). word_of (positions m k (i * 8))) a ∙ ap word_of (positions-split m 8 (n * 8) (i * 8))
    ∙ word-append (positions m 8 (i * 8)) (positions m (n * 8) (i * 8 + 8))
    ∙ ap₂ (λ (x y : ℕ). x + y) (byte_word m i h (omega arith) ∙ ap (λ (k : ℕ). get_or m i 0 * 2 ^ k) c)
    (ap (λ (k : ℕ). word_of (positions m (n * 8) k)) s ∙ bytes_word m n (suc i) h (omega arith))

-- eight digits, put together in halves and one by one
in_halves : (a b c d e f g h : ℕ)
    → ((a * 256 + b) * 65536 + (c * 256 + d)) * 4294967296 + ((e * 256 + f) * 65536 + (g * 256 + h))
    ≡ a * 2 ^ 56 + (b * 2 ^ 48 + (c * 2 ^ 40 + (d * 2 ^ 32 + (e * 2 ^ 24 + (f * 2 ^ 16 + (g * 2 ^ 8 + (h * 2 ^ 0 + 0)))))))
in_halves a b c d e f g h = omega arith

-- a map that has eight bytes or more, and one that has not
pub head-word : (m : List ℕ) → 8 ≤ length m → head_of m ≡ word_of (positions m 64 0)
unfolding head_of
head-word m h = rw (le-leb 8 (length m) h)

pub head-short : (m : List ℕ) → length m < 8 → 0 ≡ head_of m
unfolding head_of
head-short m h = rw (lt-leb 8 (length m) h)

-- eight bytes in halves
pub head-halves : (m : List ℕ) → Bytes m → 8 ≤ length m
    → ((get_or m 0 0 * 256 + get_or m 1 0) * 65536 + (get_or m 2 0 * 256 + get_or m 3 0)) * 4294967296
    + ((get_or m 4 0 * 256 + get_or m 5 0) * 65536 + (get_or m 6 0 * 256 + get_or m 7 0)) ≡ head_of m
head-halves m h l =
    in_halves (get_or m 0 0) (get_or m 1 0) (get_or m 2 0) (get_or m 3 0) (get_or m 4 0) (get_or m 5 0) (get_or m 6 0) (get_or m 7 0)
    ∙ sym (bytes_word m 8 0 h refl) ∙ sym (head-word m l)

-- what a loop keeps: the set positions from k on
pub record Ahead (m : List ℕ) (k left : ℕ) : Type 0 where
  pub within : k ≤ 64
  pub word : left ≡ word_of (later m 64 k)

-- and what it finds: p is the first of them, and without its bit, which makes the number less, the others are left
pub record Found (m : List ℕ) (k left p : ℕ) : Type 0 where
  pub below : p < 64
  pub from : k ≤ p
  pub set : present m p ≡ true
  pub first : later m 64 k ≡ p ∷ later m 64 (p + 1)
  pub on : Ahead m (p + 1) (bit_and left (9223372036854775807 / 2 ^ p))
  pub less : bit_and left (9223372036854775807 / 2 ^ p) < left

-- at first it keeps all
pub ahead-start : (m : List ℕ) (left : ℕ) → left ≡ head_of m → 8 ≤ length m → Ahead m 0 left
ahead-start m left e h = record { within = omega arith; word = e ∙ head-word m h }

-- 0 keeps none
pub ahead_none : (m : List ℕ) (k left : ℕ) → Ahead m k left → left ≡ 0 → later m 64 k ≡ []
ahead_none m k left a e = word_none (later m 64 k) (sym a.word ∙ e)

-- the mask of the positions behind p
mask-behind : (p : ℕ) → p < 64 → 9223372036854775807 / 2 ^ p ≡ 2 ^ (63 - p) - 1
mask-behind p h =
    let e : 63 ≡ 63 - p + p = omega arith in
    ap (λ (k : ℕ). (2 ^ k - 1) / 2 ^ p) e ∙ ap (λ (x : ℕ). x / 2 ^ p) (ones_split (63 - p) p) ∙ high (2 ^ (63 - p) - 1) p (ones_lt p)

module _ (m : List ℕ) (left : ℕ) where
  -- the first position of all is set
  found_here : (k : ℕ) → k < 64 → left ≡ word_of (later m 64 k) → present m k ≡ true → Found m k left (count_leading_zeros 64 left)
  unfolding word_of
  found_here k l w t =
      let n = 63 - k in
      let f = later-set m 64 k l t in
      let r = word_of (later m 64 (k + 1)) in
      let z : 64 - (k + 1) ≡ n = omega arith in
      let u : r < 2 ^ n = subst (λ (x : ℕ). r < 2 ^ x) z (word_small m (64 - (k + 1)) (k + 1) (omega arith)) in
      let v : left ≡ 2 ^ n + r = w ∙ ap word_of f in
      let s : 64 - k ≡ suc n = omega arith in
      let a : left < 2 ^ (64 - k) = rw s (omega (arith, pow-suc 2 n)) in
      let b : 2 ^ (64 - k) ≤ 2 * left + 1 = rw s (omega (arith, pow-suc 2 n)) in
      let p : k ≡ count_leading_zeros 64 left = leading_unique 64 left k (64 - k) (omega arith) a b in
      let o : bit_and left (9223372036854775807 / 2 ^ k) ≡ r =
      ap (bit_and left) (mask-behind k l) ∙ and_mask left n ∙ ap (λ (x : ℕ). x % 2 ^ n) (v ∙ ap (λ (x : ℕ). x + r) (sym (one-mul (2 ^ n)))) ∙ low 1 n u in
      subst (Found m k left) p (
      record {
        below = l;
        from = omega arith;
        set = t;
        first = f;
        on = record { within = omega arith; word = o };
        less = omega (arith, o, v, pow_pos n);
      }
      )

  -- or it is clear, and what is found from the next on is found
  found-later : (k : ℕ) → k < 64 → present m k ≡ false → (p : ℕ) → Found m (k + 1) left p → Found m k left p
  found-later k l t p x =
      let h : k + 1 ≤ p = x.from in
      record { below = x.below; from = omega arith; set = x.set; first = later-clear m 64 k l t ∙ x.first; on = x.on; less = x.less }

  found_from : (n k : ℕ) → k + n ≡ 64 → left ≡ word_of (later m 64 k) → (left ≡ 0 → ⊥) → Found m k left (count_leading_zeros 64 left)
  unfolding word_of
  found_from zero k e w h = absurd (h (w ∙ ap word_of (later-end m 64 k (omega arith))))
  found_from (suc n) k e w h = go (present m k) refl (λ t. found_from n (k + 1) (omega arith) (w ∙ ap word_of (later-clear m 64 k (omega arith) t)) h)
    where
      go : (t : Bool) → present m k ≡ t → (present m k ≡ false → Found m (k + 1) left (count_leading_zeros 64 left)) → Found m k left (count_leading_zeros 64 left)
      go true t again = found_here k (omega arith) w t
      go false t again = found-later k (omega arith) t (count_leading_zeros 64 left) (again t)

  -- the zeros that lead what is left are as many as the first position says
  pub ahead-first : (k : ℕ) → Ahead m k left → (left ≡ 0 → ⊥) → Found m k left (count_leading_zeros 64 left)
  ahead-first k a h = let b : k ≤ 64 = a.within in found_from (64 - k) k (omega arith) a.word h
