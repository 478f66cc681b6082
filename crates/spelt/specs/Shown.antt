-- A character of a text as a terminal shows it safely (document 02, item 8). 160 to 255 are Latin-1's, written in UTF-8. What would steer the terminal is spelt
-- in hexadecimal, 128 to 159 as \x80 to \x9F; so that this is told from a text that has such characters, a backslash is doubled.
use Rattle.std.specs.Prelude.{ℕ, ◌+◌, ◌/◌, ◌%◌, ◌≤◌, ◌≡◌, true, cond, List, [], ◌∷◌, eqb, ltb}
use Rattle.wire.specs.declared.text.Allowed.TheVariants.{Ascii}
use Rattle.wire.specs.Text.{is_character}

-- the characters '\' and 'x'
abbrev pub backslash : ℕ
backslash = 92

abbrev pub letter_x : ℕ
letter_x = 120

-- the character of a number below 16, '0' to '9' and 'A' to 'F'
unfoldable pub hex_digit : ℕ → ℕ
hex_digit n = cond (ltb n 10) (48 + n) (55 + n)

-- the first that Latin-1 shows above the controls
abbrev pub first_latin : ℕ
first_latin = 160

-- UTF-8 of a number from 128 to 255 (RFC 3629, section 3): two bytes, with its two high bits and its six low ones
unfoldable pub two_bytes : ℕ → List ℕ
two_bytes b = (192 + b / 64) ∷ (128 + b % 64) ∷ []

unfoldable pub escaped : ℕ → List ℕ
escaped b = backslash ∷ letter_x ∷ hex_digit (b / 16) ∷ hex_digit (b % 16) ∷ []

unfoldable pub shown : ℕ → List ℕ
shown b = cond (eqb b backslash) (backslash ∷ backslash ∷ []) (cond (is_character Ascii b) (b ∷ []) (cond (ltb b first_latin) (escaped b) (two_bytes b)))

-- bytes that steer no terminal: characters from 32 to 126, and UTF-8's two bytes of those from 160 to 191 and from 192 to 255
pub data Safe : List ℕ → Type 0 where
  none : Safe []
  ascii : {b : ℕ} {s : List ℕ} → is_character Ascii b ≡ true → Safe s → Safe (b ∷ s)
  sign : {b : ℕ} {s : List ℕ} → 160 ≤ b → b ≤ 191 → Safe s → Safe (194 ∷ b ∷ s)
  letter : {b : ℕ} {s : List ℕ} → 128 ≤ b → b ≤ 191 → Safe s → Safe (195 ∷ b ∷ s)
