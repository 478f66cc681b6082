-- A text that is good with the characters 32 to 126 is the same good text with accents allowed, read and written.
use Rattle.std.proofs.Common.{◌≡◌, ℕ, ◌+◌, ◌≤◌, Bool, true, false, cond, eqb, List, [], ◌∷◌, length, take, drop, sym, refl, ap, ◌∙◌, arith, Option, Some, None}
use Rattle.wire.specs.declared.text.Allowed.TheVariants.{Ascii, Accented}
use Rattle.wire.specs.Number.{number}
use Rattle.wire.specs.Text.{is_character, all_characters, one_past, null, ended, good, fixed_text, variable_text, takes}
use Rattle.wire.proofs.TestLaws.{both}
use Rattle.wire.proofs.TextLaws.{taken, takes-by-characters, fixed-good, fixed-read, variable-good, variable-read}

character-wider : (b : ℕ) → is_character Ascii b ≡ true → is_character Accented b ≡ true
unfolding is_character
character-wider b h = rw h refl

all-wider : (t : List ℕ) → all_characters Ascii t ≡ true → all_characters Accented t ≡ true
unfolding all_characters
all-wider [] h = refl
all-wider (b ∷ t) h =
    let p = both (is_character Ascii b) (all_characters Ascii t) h in
    rw (character-wider b p.0) (all-wider t p.1)

-- what was found behind one byte more
past-wider : (x y : Option ℕ) (n : ℕ) → ((m : ℕ) → x ≡ Some m → y ≡ Some m) → one_past x ≡ Some n → one_past y ≡ Some n
unfolding one_past
past-wider (Some m) y n h e = ap one_past (h m refl) ∙ e
past-wider None y n h e = let z : ◌≡◌ {A = ℕ} 0 1 = cc in absurd (omega arith)

-- one byte b in front, by the tests on it (p that it is 0, q that it is a character)
cons-wider : (b : ℕ) (x y : Option ℕ) (n : ℕ) → ((m : ℕ) → x ≡ Some m → y ≡ Some m) → (p q : Bool) → is_character Ascii b ≡ q
    → cond p (Some 0) (cond q (one_past x) None) ≡ Some n → cond p (Some 0) (cond (is_character Accented b) (one_past y) None) ≡ Some n
cons-wider b x y n h true q f e = e
cons-wider b x y n h false true f e = rw (character-wider b f) (past-wider x y n h e)
cons-wider b x y n h false false f e = let z : ◌≡◌ {A = ℕ} 0 1 = cc in absurd (omega arith)

null-wider : (s : List ℕ) (n : ℕ) → null Ascii s ≡ Some n → null Accented s ≡ Some n
unfolding null
null-wider [] n e = e
null-wider (b ∷ s) n e = cons-wider b (null Ascii s) (null Accented s) n (null-wider s) (eqb b 0) (is_character Ascii b) refl e

-- the readers give the same answer
module _ (w : ℕ) (s : List ℕ) (n k : ℕ) where
  pub fixed-wider : fixed_text Ascii w s ≡ good n k → fixed_text Accented w s ≡ good n k
  unfolding ended
  fixed-wider h =
      let g = fixed-good Ascii w s n k h in
      fixed-read Accented w s (Some n) g.whole (null-wider (take w s) n g.ends) ∙ ap (good n) (sym g.extent)

  pub variable-wider : variable_text Ascii w s ≡ good n k → variable_text Accented w s ≡ good n k
  unfolding ended
  variable-wider h =
      let g = variable-good Ascii w s n k h in
      let m = number (take 2 s) in
      let l : 2 + m ≤ length s = g.whole in
      variable-read Accented w s m (omega arith) refl g.most l (Some n) (null-wider (take m (drop 2 s)) n g.ends) ∙ ap (good n) (sym g.extent)

-- and the writer takes what it took
pub takes-wider : (w : ℕ) (t : List ℕ) → takes Ascii w t ≡ true → takes Accented w t ≡ true
takes-wider w t h =
    let k = taken Ascii w t h in
    takes-by-characters Accented w t k.room k.most ∙ all-wider t k.characters
