-- Bytes tested eight at once: the lowest set bit of the word that the code works out stands in the first byte that is no character, because
-- up to that byte nothing is borrowed or carried.
use Rattle.std.proofs.Common.{◌≡◌, ℕ, zero, suc, ◌+◌, ◌-◌, ◌*◌, ◌/◌, ◌%◌, ◌^◌, ◌<◌, ◌≤◌, Bool, true, false, cond, not, eqb, leb, List, [], ◌∷◌, length, take, drop, sym, refl, ap, ◌∙◌, subst, ap₂, add-zero, zero-lt-suc, add_comm, suc-add, pow-suc, div-add-mod', zero-add, mul-one, arith, length-take-le, drop-drop, eqb-true, leb-true}
use native.Mathlib.Nat.{pow-zero, one-le-pow}
use borrow.Author.Tests.{not-false}
use lib.Arith.{lt-one, mod-mul}
use lib.Bits.{bit_and, bit_or, bit_xor, and_block, or_block, xor_block, and_le_r, and_lt, or_lt, xor_lt, shifted_half, shifted_even}
use lib.Count.{under, count_trailing_zeros, trailing_of_zero}
use Rattle.wire.specs.declared.text.Allowed.{Allowed}
use Rattle.wire.specs.declared.text.Allowed.TheVariants.{Ascii, Accented}
use Rattle.wire.specs.Number.{Bytes, number}
use Rattle.wire.specs.Search.{first_from}
use Rattle.wire.specs.Text.{is_character, characters}
use Rattle.wire.proofs.NumberLaws.{bytes_take}
use Rattle.wire.proofs.SearchLaws.{first-before}
use Rattle.wire.proofs.TestLaws.{and-true, rest_of}
use Rattle.wire.proofs.TextLaws.{character-least, count-stops, count-goes}

-- One byte c, n times.
unfoldable spread : ℕ → ℕ → ℕ
spread zero c = 0
spread (suc n) c = spread n c * 256 + c

-- What 1 is added to, m being the seven low bits of each byte, and the bits that are looked at, m being the top ones.
unfoldable pub lowered : Allowed → ℕ → ℕ → ℕ
lowered Ascii w m = w
lowered Accented w m = bit_and w m

unfoldable pub looked : Allowed → ℕ → ℕ → ℕ
looked Ascii w m = m
looked Accented w m = bit_xor (bit_and w m) m

-- A lowest byte's mark, into which nothing is borrowed or carried.
unfoldable mark : Allowed → ℕ → ℕ
mark allowed b = bit_and (bit_or ((b + 224) % 256) ((lowered allowed b 127 + 1) % 256)) (looked allowed b 128)

-- A byte is marked where it is no character: a search through the 256 bytes, which is computed, finds none where it is not so.
differs : Allowed → ℕ → Bool
differs allowed b = not (eqb (mark allowed b) (cond (is_character allowed b) 0 128))

none-differs : (allowed : Allowed) → first_from (differs allowed) 256 0 ≡ 256
unfolding first_from differs mark lowered looked is_character
none-differs Ascii = refl
none-differs Accented = refl

byte-mark : (allowed : Allowed) (b : ℕ) → b < 256 → mark allowed b ≡ cond (is_character allowed b) 0 128
unfolding differs
byte-mark allowed b h =
    eqb-true (mark allowed b) (cond (is_character allowed b) 0 128)
    (not-false _ (first-before (differs allowed) 256 0 b (omega arith) (omega (arith, none-differs allowed))))

-- Below a number's shift by j bits stand j zeros.
shifted : (j k n : ℕ) → count_trailing_zeros (j + k) (n * 2 ^ j) ≡ j + count_trailing_zeros k n
unfolding count_trailing_zeros
shifted zero k n = simp (zero-add, mul-one)
shifted (suc j) k n =
    rw (suc-add j k, suc-add j (count_trailing_zeros k n), shifted_even n j, shifted_half n j) (ap suc (shifted j k n))

-- So seven stand below the bit of a lowest byte of 128.
top_byte : (k n : ℕ) → count_trailing_zeros (8 + k) (n * 256 + 128) ≡ 7
unfolding count_trailing_zeros
top_byte k n =
    let e : n * 256 + 128 ≡ (1 + n * 2) * 128 = omega arith in
    let f : 8 + k ≡ 7 + suc k = omega arith in
    let o : (1 + n * 2) % 2 ≡ 1 = omega arith in
    ap₂ count_trailing_zeros f e ∙ shifted 7 (suc k) (1 + n * 2) ∙ rw o

-- A number cut to n bytes and one is its lowest byte, and the others cut to n.
cut : (x n : ℕ) → x % 256 ^ suc n ≡ x / 256 % 256 ^ n * 256 + x % 256
cut x n = rw pow-suc (mod-mul x {m = 256 ^ n} {c = 256} (one-le-pow n 256 (zero-lt-suc 255)) (zero-lt-suc 255))

-- A word's bits below m and l are those of its lowest byte and those of the bytes above it: what is looked at, what 1 is added to, and
-- what it is looked at with.
apart : (d u m l : ℕ) → l < 256
    → bit_and (bit_or d u) (m * 256 + l) ≡ bit_and (bit_or (d / 256) (u / 256)) m * 256 + bit_and (bit_or (d % 256) (u % 256)) l
apart d u m l h =
    let e : d % 256 < 256 = omega arith in
    let f : u % 256 < 256 = omega arith in
    ap₂ (λ (i j : ℕ). bit_and (bit_or i j) (m * 256 + l)) (sym (div-add-mod' d 256)) (sym (div-add-mod' u 256))
    ∙ ap (λ (j : ℕ). bit_and j (m * 256 + l)) (or_block 8 (d / 256) (u / 256) (d % 256) (u % 256) e f)
    ∙ and_block 8 (bit_or (d / 256) (u / 256)) m (bit_or (d % 256) (u % 256)) l (or_lt 8 (d % 256) (u % 256) e f) h

and-apart : (b w m l : ℕ) → b < 256 → l < 256 → bit_and (b + w * 256) (m * 256 + l) ≡ bit_and w m * 256 + bit_and b l
and-apart b w m l h k = ap (λ (j : ℕ). bit_and j (m * 256 + l)) (add_comm b (w * 256)) ∙ and_block 8 w m b l h k

lowered-apart : (allowed : Allowed) (b w m : ℕ) → b < 256 → lowered allowed (b + w * 256) (m * 256 + 127) ≡ lowered allowed w m * 256 + lowered allowed b 127
unfolding lowered
lowered-apart Ascii b w m h = add_comm b (w * 256)
lowered-apart Accented b w m h = and-apart b w m 127 h (omega arith)

looked-apart : (allowed : Allowed) (b w m : ℕ) → b < 256 → looked allowed (b + w * 256) (m * 256 + 128) ≡ looked allowed w m * 256 + looked allowed b 128
unfolding looked
looked-apart Ascii b w m h = refl
looked-apart Accented b w m h =
    ap (λ (j : ℕ). bit_xor j (m * 256 + 128)) (and-apart b w m 128 h (omega arith))
    ∙ xor_block 8 (bit_and w m) m (bit_and b 128) 128 (and_lt 8 b 128 h (omega arith)) (omega arith)

looked-lt : (allowed : Allowed) (b : ℕ) → b < 256 → looked allowed b 128 < 256
unfolding looked
looked-lt Ascii b h = omega arith
looked-lt Accented b h = xor_lt 8 (bit_and b 128) 128 (and_lt 8 b 128 h (omega arith)) (omega arith)

-- A character carries nothing.
lowered-most : (allowed : Allowed) (b : ℕ) → is_character allowed b ≡ true → lowered allowed b 127 ≤ 127
unfolding lowered is_character
lowered-most Ascii b h = let l : b ≤ 126 = leb-true b 126 (and-true (leb 32 b) (leb b 126) h).1 in omega arith
lowered-most Accented b h = and_le_r b 127

-- A byte b in front of the bytes of w: d is the word less 32 in each of its n bytes and one, and u the lowered word and 1 in each.
module _ (allowed : Allowed) (b w n d u : ℕ) (h : b < 256) (p : (d + spread (suc n) 32) % 256 ^ suc n ≡ b + w * 256)
    (q : u ≡ (lowered allowed (b + w * 256) (spread (suc n) 127) + spread (suc n) 1) % 256 ^ suc n) where
  -- The lowest bytes of d and u are worked out from b alone.
  low-less : d % 256 ≡ (b + 224) % 256
  unfolding spread
  low-less =
      let c = cut (d + (spread n 32 * 256 + 32)) n in
      omega arith

  -- The sum is the lowest byte's and that of the bytes above it.
  sum : ℕ
  sum = lowered allowed w (spread n 127) * 256 + lowered allowed b 127 + (spread n 1 * 256 + 1)

  summed : u ≡ sum / 256 % 256 ^ n * 256 + sum % 256
  unfolding spread sum
  summed = q ∙ ap (λ (j : ℕ). (j + (spread n 1 * 256 + 1)) % 256 ^ suc n) (lowered-apart allowed b w (spread n 127) h) ∙ cut sum n

  low-more : u % 256 ≡ (lowered allowed b 127 + 1) % 256
  unfolding sum
  low-more =
      let s = summed in
      omega arith

  -- So the lowest byte is marked by itself.
  low-mark : bit_and (bit_or d u) (looked allowed (b + w * 256) (spread (suc n) 128))
      ≡ bit_and (bit_or (d / 256) (u / 256)) (looked allowed w (spread n 128)) * 256 + cond (is_character allowed b) 0 128
  unfolding spread mark
  low-mark =
      ap (bit_and (bit_or d u)) (looked-apart allowed b w (spread n 128) h)
      ∙ apart d u (looked allowed w (spread n 128)) (looked allowed b 128) (looked-lt allowed b h)
      ∙ ap (λ (j : ℕ). bit_and (bit_or (d / 256) (u / 256)) (looked allowed w (spread n 128)) * 256 + j)
      (ap₂ (λ (i j : ℕ). bit_and (bit_or i j) (looked allowed b 128)) low-less low-more ∙ byte-mark allowed b h)

  -- A character borrows and carries nothing, so that the bytes above it stand to w in the same way.
  module _ (e : is_character allowed b ≡ true) where
    rest-less : (d / 256 + spread n 32) % 256 ^ n ≡ w
    unfolding spread
    rest-less =
        let r = character-least allowed b e in
        let l = low-less in
        let k : (d + (spread n 32 * 256 + 32)) / 256 ≡ d / 256 + spread n 32 = omega (arith, r) in
        let c = cut (d + (spread n 32 * 256 + 32)) n in
        let f : (d + (spread n 32 * 256 + 32)) / 256 % 256 ^ n ≡ w = omega arith in
        ap (λ (j : ℕ). j % 256 ^ n) (sym k) ∙ f

    rest_more : u / 256 ≡ (lowered allowed w (spread n 127) + spread n 1) % 256 ^ n
    unfolding sum
    rest_more =
        let r = lowered-most allowed b e in
        let k : sum / 256 ≡ lowered allowed w (spread n 127) + spread n 1 = omega arith in
        let s = summed in
        let f : u / 256 ≡ sum / 256 % 256 ^ n = omega arith in
        f ∙ ap (λ (j : ℕ). j % 256 ^ n) k

-- One byte in front, by the test on it: m is the bytes' word of marks, and c their count of characters.
counted-cons : (t : Bool) (k m c : ℕ) → (t ≡ true → count_trailing_zeros k m / 8 ≡ c)
    → count_trailing_zeros (8 + k) (m * 256 + cond t 0 128) / 8 ≡ cond t (suc c) 0
counted-cons true k m c h =
    let e : count_trailing_zeros (8 + k) (m * 256 + 0) ≡ 8 + count_trailing_zeros k m = ap (count_trailing_zeros (8 + k)) (add-zero (m * 256)) ∙ shifted 8 k m in
    let f = h refl in
    omega arith
counted-cons false k m c h = omega (arith, top_byte k m)

-- The zeros below the lowest mark count the characters before it, eight bits each.
counted : (allowed : Allowed) (t : List ℕ) → Bytes t → (d u : ℕ) → (d + spread (length t) 32) % 256 ^ length t ≡ number t
    → u ≡ (lowered allowed (number t) (spread (length t) 127) + spread (length t) 1) % 256 ^ length t
    → count_trailing_zeros (8 * length t) (bit_and (bit_or d u) (looked allowed (number t) (spread (length t) 128))) / 8 ≡ characters allowed t
unfolding count_trailing_zeros number characters
counted allowed [] h d u p q = refl
counted allowed (b ∷ t) h d u p q =
    let n = length t in
    let w = number t in
    let e : 8 * suc n ≡ 8 + 8 * n = omega arith in
    ap₂ (λ (i j : ℕ). count_trailing_zeros i j / 8) e (low-mark allowed b w n d u (h zero) p q)
    ∙ counted-cons (is_character allowed b) (8 * n) (bit_and (bit_or (d / 256) (u / 256)) (looked allowed w (spread n 128))) (characters allowed t)
    (λ c. counted allowed t (λ k. h (suc k)) (d / 256) (u / 256) (rest-less allowed b w n d u (h zero) p q c) (rest_more allowed b w n d u (h zero) p q c))

-- The code's word, with its constants as it writes them.
pub eight-counted : (allowed : Allowed) (s : List ℕ) (w d u : ℕ) → 8 ≤ length s → Bytes s → w ≡ number (take 8 s)
    → (d + 0x2020202020202020) % 2 ^ 64 ≡ w → u ≡ (lowered allowed w 0x7F7F7F7F7F7F7F7F + 0x0101010101010101) % 2 ^ 64
    → count_trailing_zeros 64 (bit_and (bit_or d u) (looked allowed w 0x8080808080808080)) / 8 ≡ characters allowed (take 8 s)
unfolding spread
eight-counted allowed s w d u l h e p q =
    let t = take 8 s in
    let n : length t ≡ 8 = length-take-le 8 s l in
    subst (λ (j : ℕ). count_trailing_zeros 64 (bit_and (bit_or d u) (looked allowed j 0x8080808080808080)) / 8 ≡ characters allowed t) (sym e)
    (subst (λ (k : ℕ). count_trailing_zeros (8 * k) (bit_and (bit_or d u) (looked allowed (number t) (spread k 128))) / 8 ≡ characters allowed t) n
    (counted allowed t (bytes_take 8 s h) d u (rw n (p ∙ e))
    (rw n (q ∙ ap (λ (j : ℕ). (lowered allowed j 0x7F7F7F7F7F7F7F7F + 0x0101010101010101) % 2 ^ 64) e))))

-- A number that fits k bits and is not 0 has fewer zeros below its lowest set bit.
under-lt : (d t k : ℕ) → (d ≡ 0 → t < k) → under d t < suc k
under-lt zero t k h = let l = h refl in omega arith
under-lt (suc d) t k h = omega arith

trailing_lt : (k n : ℕ) → n < 2 ^ k → (n ≡ 0 → ⊥) → count_trailing_zeros k n < k
unfolding count_trailing_zeros
trailing_lt zero n l u = absurd (u (lt-one (simp pow-zero at l)))
trailing_lt (suc k) n l u =
    let m : n < 2 ^ k * 2 = rw pow-suc at l in
    under-lt (n % 2) (count_trailing_zeros k (n / 2)) k (λ e. trailing_lt k (n / 2) (omega arith) (λ z. u (omega arith)))

-- The loop over the words, where i characters are counted and w is the word of the next eight bytes' marks.
module _ (allowed : Allowed) (s : List ℕ) (i w : ℕ) (h : i + characters allowed (drop i s) ≡ characters allowed s)
    (e : count_trailing_zeros 64 w / 8 ≡ characters allowed (take 8 (take (length s - i) (drop i s)))) where
  -- The part that is lent is all that follows.
  marked : count_trailing_zeros 64 w / 8 ≡ characters allowed (take 8 (drop i s))
  marked = e ∙ ap (λ (t : List ℕ). characters allowed (take 8 t)) (rest_of s i)

  -- Without a mark the eight are characters.
  pub eight-more : w ≡ 0 → (i + 8) + characters allowed (drop (i + 8) s) ≡ characters allowed s
  eight-more z =
      let m = marked in
      let t : count_trailing_zeros 64 w ≡ 64 = ap (count_trailing_zeros 64) z ∙ trailing_of_zero 64 in
      let g : characters allowed (drop i s) ≡ 8 + characters allowed (drop 8 (drop i s)) = count-goes allowed 8 (drop i s) (omega arith) in
      let d : characters allowed (drop 8 (drop i s)) ≡ characters allowed (drop (i + 8) s) = ap (characters allowed) (drop-drop 8 i s) in
      omega arith

  -- With one the characters end at the byte of the lowest.
  pub stops-within : w < 2 ^ 64 → (w ≡ 0 → ⊥) → i + count_trailing_zeros 64 w / 8 ≡ characters allowed s
  stops-within l u =
      let m = marked in
      let t = trailing_lt 64 w l u in
      let g : characters allowed (drop i s) ≡ characters allowed (take 8 (drop i s)) = count-stops allowed 8 (drop i s) (omega arith) in
      omega arith
