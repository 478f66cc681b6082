-- `wire::map::next_bit` meets its contract: the zeros that lead the rest of a byte are as many as its next set place says.
use Rattle.std.proofs.Common.{◌≡◌, ℕ, zero, suc, ◌+◌, ◌-◌, ◌/◌, ◌%◌, ◌^◌, ◌<◌, ◌≤◌, Bool, true, false, sym, refl, ap, ◌∙◌, mod-lt, pow-suc, arith, pow_pos, w8, Fits, eqb-true}
use native.Mathlib.Nat.{mod-one}
use lib.Bits.{bit_and, and_mask}
use lib.Count.{count_leading_zeros, leading_of_zero, leading_le, leading_unique, trailing_le}
use lib.Pow.{ones_split, ones_lt, high}
use borrow.Author.Tests.{eqb-false}
use Rattle.wire.specs.Map.{bit_at, next_bit}
use Rattle.wire.proofs.MapLaws.{with-place, next_bit-hit, next_bit-pass, next_bit-end}
use Rattle.wire.proofs.map.next_bit.Goals as goal

-- The last k places of b, from place 8 - k on, are its remainder by 2 ^ k. Place j before them is the next set one, or it is passed over.
module _ (b : ℕ) where
  zeros-before : (k j : ℕ) → j + suc k ≡ 8 → count_leading_zeros 8 (b % 2 ^ k) ≡ next_bit b (j + 1) → count_leading_zeros 8 (b % 2 ^ suc k) ≡ next_bit b j
  unfolding bit_at
  zeros-before k j e after = go (bit_at b j) refl
    where
      here : 7 - j ≡ k
      here = omega arith

      go : (t : Bool) → bit_at b j ≡ t → count_leading_zeros 8 (b % 2 ^ suc k) ≡ next_bit b j
      go true t =
          let set = with-place b k 1 (rw here at (eqb-true (b / 2 ^ (7 - j) % 2) 1 t)) in
          sym (leading_unique 8 (b % 2 ^ suc k) j (suc k) e (mod-lt b (pow_pos (suc k))) (omega (arith, set, pow-suc 2 k)))
          ∙ sym (next_bit-hit b j (omega arith) t)
      go false t =
          let clear : b / 2 ^ k % 2 ≡ 1 → ⊥ = rw here at (eqb-false (b / 2 ^ (7 - j) % 2) 1 t) in
          let same : b % 2 ^ suc k ≡ b % 2 ^ k = omega (arith, with-place b k 0 (omega arith)) in
          ap (count_leading_zeros 8) same ∙ after ∙ sym (next_bit-pass b j (omega arith) t)

  zeros-next : (k j : ℕ) → j + k ≡ 8 → count_leading_zeros 8 (b % 2 ^ k) ≡ next_bit b j
  zeros-next zero j e = ap (count_leading_zeros 8) (mod-one b) ∙ leading_of_zero 8 ∙ sym (next_bit-end b j (omega arith))
  zeros-next (suc k) j e = zeros-before k j e (zeros-next k (j + 1) (omega arith))

-- what the code keeps of a byte from place f on, and the zeros that lead it
kept_from : (f : ℕ) → f < 8 → 255 / 2 ^ f ≡ 2 ^ (8 - f) - 1
kept_from f h =
    let e : 8 ≡ 8 - f + f = omega arith in
    ap (λ (k : ℕ). (2 ^ k - 1) / 2 ^ f) e ∙ ap (λ (x : ℕ). x / 2 ^ f) (ones_split (8 - f) f) ∙ high (2 ^ (8 - f) - 1) f (ones_lt f)

rest-next : (b f : ℕ) → f < 8 → count_leading_zeros 8 (bit_and b (255 / 2 ^ f)) ≡ next_bit b f
rest-next b f h =
    ap (λ (x : ℕ). count_leading_zeros 8 (bit_and b x)) (kept_from f h) ∙ ap (count_leading_zeros 8) (and_mask b (8 - f)) ∙ zeros-next b (8 - f) f (omega arith)

count_fits : (n : ℕ) → n ≤ 8 → Fits w8 n
count_fits n h = omega arith

pub returns-then-from-ge8 : goal.returns-then-from-ge8
returns-then-from-ge8 c = let a = c.args in sym (next_bit-end a.byte a.from (omega arith))

-- zeros counted from either end of a byte fit; that they are the right ones is for the return to show
pub overflow_cast-result : goal.overflow_cast-result
overflow_cast-result c = count_fits _ (search (leading_le, trailing_le))

pub returns : goal.returns
returns c = let a = c.args in rest-next a.byte a.from (omega arith)
