-- Bytes laid behind others.
use Rattle.std.proofs.Common.{Result}
use mathlib.Core.Path.{◌≡◌, ap, ap₂, ◌∙◌}
use Prim.Native.Nat.{ℕ, ◌+◌, ◌-◌, ◌<◌, ◌≤◌}
use native.Mathlib.Numerals.{add-one}
use native.Mathlib.Omega.{arith}
use mathlib.Core.List.{List, [], ◌∷◌, ◌++◌, append_assoc}
use lib.ListN.{length, set, take, drop, length-append, length-drop}
use lib.Seq.{length-take-le, take_at, take-suc-set}
use borrow.Author.Tests.{le-leb}
use borrow.Rule.Slice.PartMut.{put_mid}
use Rattle.wire.specs.declared.laying.NotLaid.{NotLaid}
use Rattle.std.specs.Result.{result_unwrap_or}
use Rattle.wire.specs.Laying.{laid, laid_answer}
use Rattle.spelt.specs.Spelt.{number_text}
use Rattle.spelt.proofs.DigitLaws.{number-most}

-- laid in the part of d behind its first bytes, which is lent for them and has room
module _ (d bs : List ℕ) (at : ℕ) (h : at + length bs ≤ length d) where
  abbrev part : List ℕ
  part = take (length d - at) (drop at d)

  room : length bs ≤ length part
  room =
      let l : length d - at ≤ length (drop at d) = rw length-drop (omega arith) in
      rw (length-take-le (length d - at) (drop at d) l) (omega arith)

  -- the answer, the bytes it reports and the part afterwards
  behind : (a : Result ℕ NotLaid) (m : ℕ) (y : List ℕ) → a ≡ laid_answer bs part → m ≡ result_unwrap_or a 0 → y ≡ laid bs part
      → (m ≡ length bs) × (take (at + m) (put_mid at (length d - at) d y) ≡ take at d ++ bs)
  unfolding laid laid_answer
  behind a m y p q e =
      let r = drop (length d - at) (drop at d) in
      let x = drop (length bs) part in
      let t = le-leb (length bs) (length part) room in
      let n : m ≡ length bs = q ∙ ap (λ (x : Result ℕ NotLaid). result_unwrap_or x 0) p ∙ rw t in
      let w : y ≡ bs ++ x = e ∙ rw t in
      let l : at ≤ length d = omega arith in
      let s : take at d ++ (y ++ r) ≡ (take at d ++ bs) ++ (x ++ r) = rw w (simp append_assoc) in
      (n, ap₂ (λ (k : ℕ) (z : List ℕ). take (at + k) z) n s ∙ take_at (take at d ++ bs) (x ++ r) (at + length bs) (simp (length-append, length-take-le at d l)))

-- the same of a number, for which twenty bytes are room
pub number_behind : (d : List ℕ) (at n : ℕ) → at + 20 ≤ length d → (a : Result ℕ NotLaid) (m : ℕ) (y : List ℕ)
    → a ≡ laid_answer (number_text n) (take (length d - at) (drop at d)) → m ≡ result_unwrap_or a 0 → y ≡ laid (number_text n) (take (length d - at) (drop at d))
    → (m ≤ 20) × (take (at + m) (put_mid at (length d - at) d y) ≡ take at d ++ number_text n)
number_behind d at n h a m y p q e =
    let l = number-most n in
    let b = behind d (number_text n) at (omega arith) a m y p q e in
    (omega arith, b.1)

-- a point behind the first k bytes of d, which are t and w, and before f
pub point : (d t w f : List ℕ) (k : ℕ) → k < length d → take k d ≡ t ++ w → take (k + 1) (set d k 46) ++ f ≡ t ++ (w ++ 46 ∷ f)
point d t w f k h e =
    ap (λ (j : ℕ). take j (set d k 46) ++ f) (add-one k)
    ∙ ap (λ (x : List ℕ). x ++ f) (take-suc-set d k 46 h ∙ ap (λ (x : List ℕ). x ++ 46 ∷ []) e) ∙ simp append_assoc
