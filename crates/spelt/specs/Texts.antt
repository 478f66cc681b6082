-- Decimal texts and what they say, whoever wrote them: an optional '-', digits, and optionally a point and digits. The words are ours.
use Rattle.std.specs.Prelude.{ℕ, ◌+◌, ◌-◌, ◌*◌, ◌^◌, ◌≤◌, ◌≡◌, List, [], ◌∷◌, ◌++◌, ℤ, pos, neg_ℤ, length}

-- the characters '0' to '9'
pub data Digits : List ℕ → Type 0 where
  none : Digits []
  more : {b : ℕ} {s : List ℕ} → 48 ≤ b → b ≤ 57 → Digits s → Digits (b ∷ s)

-- what digits count, behind digits that count v
unfoldable pub counted : ℕ → List ℕ → ℕ
counted v [] = v
counted v (b ∷ s) = counted (v * 10 + (b - 48)) s

-- a text without a sign that says exactly n hundred-millionths: digits w, or digits w and f with a point between them, whose value is that of w ++ f
-- over 10 ^ length f
pub data Says : List ℕ → ℕ → Type 0 where
  whole : {w : List ℕ} {n : ℕ} → Digits w → 1 ≤ length w → n ≡ counted 0 w * 10 ^ 8 → Says w n
  pointed : {w f : List ℕ} {n : ℕ} → Digits w → 1 ≤ length w → Digits f → 1 ≤ length f → n * 10 ^ length f ≡ counted 0 (w ++ f) * 10 ^ 8
      → Says (w ++ 46 ∷ f) n

-- a text that says z hundred-millionths
pub data DecimalText : List ℕ → ℤ → Type 0 where
  plain : {t : List ℕ} {z : ℤ} (n : ℕ) → Says t n → z ≡ pos n → DecimalText t z
  minus : {t : List ℕ} {z : ℤ} (n : ℕ) → Says t n → z ≡ neg_ℤ (pos n) → DecimalText (45 ∷ t) z
