-- Laws of texts: what the readers' and the writers' loops ask; that a written text is read back; that a reader's answer depends on the field's own
-- bytes alone; and that the writer takes the characters of every text that a reader calls good.
use Rattle.std.proofs.Common.{◌≡◌, ℕ, zero, suc, ◌+◌, ◌-◌, ◌^◌, ◌<◌, ◌≤◌, Bool, true, false, cond, not, ◌&&◌, ◌||◌, eqb, ltb, leb, List, [], ◌∷◌, ◌++◌, length, get_or, take, drop, set, replicate, sym, refl, ap, ◌∙◌, subst, ap₂, append_assoc, append-nil, zero-add, arith, length-append, length-drop, drop_of_length-le, length-take-le, take_all, drop-cons, take-take, drop-drop, take_at, take-add, drop_at, ltb-true, le-ltb, lt-ltb, ne_eqb, eqb-true, le-leb, leb-false, leb-true, Option, Some, None, Result, Err}
use lib.Dec.{leb-suc-suc, eqb-suc-suc, eqb-zero-suc}
use lib.ListN.{length-replicate}
use lib.Seq.{set_at, append_snoc}
use borrow.Author.Tests.{lt-leb, eqb-false}
use Rattle.std.specs.List.{position_from}
use Rattle.std.specs.Option.{unwrap_or}
use Rattle.wire.specs.declared.laying.NotLaid.{NotLaid}
use Rattle.wire.specs.declared.laying.NotLaid.TheVariants.{BadText}
use Rattle.wire.specs.declared.text.Allowed.{Allowed}
use Rattle.wire.specs.declared.text.Allowed.TheVariants.{Ascii, Accented}
use Rattle.wire.specs.declared.text.Text.{Text}
use Rattle.wire.specs.Laying.{laid, laid_answer}
use Rattle.wire.specs.Number.{Bytes, number, number_bytes}
use Rattle.wire.specs.Text.{is_character, all_characters, characters, one_past, null, ended, good, fixed_text, variable_body, variable_text, characters_of, fixed_part, variable_part, takes, fixed_bytes, variable_bytes}
use Rattle.wire.proofs.TestLaws.{both, and-true}
use Rattle.wire.proofs.NumberLaws.{length-number_bytes, number-number_bytes, number-take}

-- k characters more before the null
unfoldable past : ℕ → Option ℕ → Option ℕ
past zero x = x
past (suc k) x = one_past (past k x)

past-at : (k : ℕ) → past k (Some 0) ≡ Some k
unfolding past one_past
past-at zero = refl
past-at (suc k) = ap one_past (past-at k)

-- the characters at the front counted by parts: one byte in front, by the test on it (t)
stops-cons : (t : Bool) (a c n : ℕ) → (a < n → c ≡ a) → cond t (suc a) 0 < suc n → cond t (suc c) 0 ≡ cond t (suc a) 0
stops-cons true a c n h l = ap suc (h (omega arith))
stops-cons false a c n h l = refl

goes-cons : (t : Bool) (a c r n : ℕ) → (a ≡ n → c ≡ n + r) → cond t (suc a) 0 ≡ suc n → cond t (suc c) 0 ≡ suc n + r
goes-cons true a c r n h e = let f = h (omega arith) in omega arith
goes-cons false a c r n h e = absurd (omega arith)

all_cons : (t : Bool) (c l : ℕ) (a : Bool) → eqb c l ≡ a → eqb (cond t (suc c) 0) (suc l) ≡ cond t a false
all_cons true c l a e = eqb-suc-suc c l ∙ e
all_cons false c l a e = eqb-zero-suc l

-- the null at place n, if it stands there
unfoldable null_behind : ℕ → List ℕ → Option ℕ
null_behind n s = cond (ltb n (length s)) (cond (eqb (get_or s n 0) 0) (Some n) None) None

past-tests : (p q : Bool) (n : ℕ) → one_past (cond p (cond q (Some n) None) None) ≡ cond p (cond q (Some (suc n)) None) None
unfolding one_past
past-tests true true n = refl
past-tests true false n = refl
past-tests false q n = refl

at_place : (p q : Bool) (m n : ℕ) → cond p (cond q (Some m) None) None ≡ Some n → m ≡ n
at_place true true m n e = cc
at_place true false m n e = let z : ◌≡◌ {A = ℕ} 0 1 = cc in absurd (omega arith)
at_place false q m n e = let z : ◌≡◌ {A = ℕ} 0 1 = cc in absurd (omega arith)

-- a good answer passed each test
good-if : (b : Bool) (x : Option Text) (n k : ℕ) → cond b x None ≡ good n k → (b ≡ true) × (x ≡ good n k)
good-if true x n k e = (refl, e)
good-if false x n k e = let z : ◌≡◌ {A = ℕ} 0 1 = cc in absurd (omega arith)

characters-told : Option Text → ℕ
characters-told (Some text) = text.characters
characters-told None = 0

taken-told : Option Text → ℕ
taken-told (Some text) = text.taken
taken-told None = 0

ended-good : (m : ℕ) (x : Option ℕ) (n k : ℕ) → ended m x ≡ good n k → (k ≡ m) × (x ≡ Some n)
unfolding ended characters-told taken-told
ended-good m (Some j) n k e =
    let p : j ≡ n = ap characters-told e in
    let q : m ≡ k = ap taken-told e in
    (sym q, ap Some p)
ended-good m None n k e = let z : ◌≡◌ {A = ℕ} 0 1 = cc in absurd (omega arith)

-- how many bytes a written text takes
pub length-fixed_bytes : (w : ℕ) (t : List ℕ) → length t ≤ w → length (fixed_bytes w t) ≡ w
unfolding fixed_bytes
length-fixed_bytes w t h = simp (length-append, length-replicate) (omega arith)

pub length-variable_bytes : (t : List ℕ) → length (variable_bytes t) ≡ length t + 3
unfolding variable_bytes
length-variable_bytes t = simp (length-append, length-number_bytes) (omega arith)

-- what each way of a text writer owes, whatever it lays; b is whether it takes the text
pub text-refused : (bs d : List ℕ) (b : Bool) → b ≡ false → (Err BadText ≡ cond b (laid_answer bs d) (Err BadText)) × (d ≡ cond b (laid bs d) d)
text-refused bs d b h = (rw h, rw h)

pub text-laid : (bs d : List ℕ) (b : Bool) (a : Result ℕ NotLaid) (e : List ℕ) → b ≡ true → (a ≡ laid_answer bs d) × (e ≡ laid bs d)
    → (a ≡ cond b (laid_answer bs d) (Err BadText)) × (e ≡ cond b (laid bs d) d)
text-laid bs d b a e h p = (rw h p.0, rw h p.1)

-- a text laid at the front, then zeros to the width: e is the buffer after the text, z the part of it that was cleared
pub lay-fixed : (d t e z : List ℕ) (w : ℕ) → length t ≤ w → e ≡ t ++ drop (length t) d → z ≡ replicate (w - length t) 0
    → take (length t) e ++ (z ++ drop (w - length t) (drop (length t) e)) ≡ fixed_bytes w t ++ drop w d
unfolding fixed_bytes
lay-fixed d t e z w h p q =
    let n = length t in
    let m : n + (w - n) ≡ w = omega arith in
    ap₂ (λ (x y : List ℕ). take n x ++ (y ++ drop (w - n) (drop n x))) p q
    ∙ ap₂ (λ (x y : List ℕ). x ++ (replicate (w - n) 0 ++ drop (w - n) y)) (take_at t (drop n d) n refl) (drop_at t (drop n d) n refl)
    ∙ ap (λ (y : List ℕ). t ++ (replicate (w - n) 0 ++ y)) (drop-drop (w - n) n d ∙ ap (λ (k : ℕ). drop k d) m)
    ∙ sym (append_assoc t (replicate (w - n) 0) (drop w d))

-- the length, the text and its null laid at the front: e is the buffer after the length, y the part behind it after the text
pub lay-variable : (d t e y : List ℕ) → length t + 3 ≤ length d → e ≡ number_bytes 2 (length t + 1) ++ drop 2 d
    → y ≡ t ++ drop (length t) (take (length e - 2) (drop 2 e))
    → set (take 2 e ++ (y ++ drop (length e - 2) (drop 2 e))) (length t + 2) 0 ≡ variable_bytes t ++ drop (length t + 3) d
unfolding variable_bytes
lay-variable d t e y l p q =
    let n = length t in
    let h = number_bytes 2 (n + 1) in
    let f : length h ≡ 2 = length-number_bytes 2 (n + 1) in
    let r = drop (suc (2 + n)) d in
    let behind : drop 2 e ≡ drop 2 d = ap (drop 2) p ∙ drop_at h (drop 2 d) 2 f in
    let m : length (drop 2 e) ≡ length e - 2 = length-drop 2 e in
    let none : drop (length e - 2) (drop 2 e) ≡ [] = drop_of_length-le (drop 2 e) {i = length e - 2} (omega arith) in
    let text : y ≡ t ++ get_or d (2 + n) 0 ∷ r =
    q ∙ ap (λ (x : List ℕ). t ++ drop n x) (take_all (length e - 2) (drop 2 e) (omega arith) ∙ behind)
    ∙ ap (λ (x : List ℕ). t ++ x) (drop-drop n 2 d ∙ drop-cons d (2 + n) 0 (omega arith)) in
    let whole : take 2 e ++ (y ++ drop (length e - 2) (drop 2 e)) ≡ (h ++ t) ++ get_or d (2 + n) 0 ∷ r =
    ap₂ (λ (x z : List ℕ). x ++ (y ++ z)) (ap (take 2) p ∙ take_at h (drop 2 d) 2 f) none
    ∙ ap (λ (x : List ℕ). h ++ x) (append-nil y ∙ text) ∙ sym (append_assoc h t (get_or d (2 + n) 0 ∷ r)) in
    let k : length (h ++ t) ≡ n + 2 = rw length-append (omega arith) in
    let j : suc (2 + n) ≡ n + 3 = omega arith in
    ap (λ (x : List ℕ). set x (n + 2) 0) whole ∙ set_at (h ++ t) (get_or d (2 + n) 0) r 0 (n + 2) k
    ∙ sym (append_snoc (h ++ t) 0 r)
    ∙ ap₂ (λ (x : List ℕ) (i : ℕ). x ++ drop i d) (append_assoc h t (0 ∷ [])) j

-- a character is not below 32, by either set
pub character-least : (allowed : Allowed) (b : ℕ) → is_character allowed b ≡ true → 32 ≤ b
unfolding is_character
character-least Ascii b h = leb-true 32 b (and-true (leb 32 b) (leb b 126) h).0
character-least Accented b h = go (leb 32 b && leb b 126) refl h
  where
    go : (t : Bool) → leb 32 b && leb b 126 ≡ t → t || (leb 128 b && leb b 255) ≡ true → 32 ≤ b
    go true e h = leb-true 32 b (and-true (leb 32 b) (leb b 126) e).0
    go false e h = let l : 128 ≤ b = leb-true 128 b (and-true (leb 128 b) (leb b 255) h).0 in omega arith

-- from 32 on only 127 is none with accents
pub accented-above : (b : ℕ) → 32 ≤ b → b ≤ 255 → not (eqb b 127) ≡ is_character Accented b
unfolding is_character
accented-above b h l = go (eqb b 127) refl
  where
    apart : (t : Bool) → leb b 126 ≡ t → eqb b 127 ≡ false → true ≡ (leb 32 b && t) || (leb 128 b && leb b 255)
    apart true e f = rw (le-leb 32 b h) refl
    apart false e f =
        let n = leb-false b 126 e in
        rw (le-leb 32 b h, le-leb 128 b (omega (arith, eqb-false b 127 f)), le-leb b 255 l) refl

    go : (t : Bool) → eqb b 127 ≡ t → not t ≡ (leb 32 b && leb b 126) || (leb 128 b && leb b 255)
    go true e = rw (eqb-true b 127 e) refl
    go false e = apart (leb b 126) refl e

-- What follows holds of each set.
module _ (allowed : Allowed) where
  character-not-null : (b : ℕ) → is_character allowed b ≡ true → eqb b 0 ≡ false
  character-not-null b h =
      let l : 32 ≤ b = character-least allowed b h in
      ne_eqb b 0 (λ e. omega arith)

  null-then : (t r : List ℕ) → all_characters allowed t ≡ true → null allowed (t ++ r) ≡ past (length t) (null allowed r)
  unfolding all_characters null past
  null-then [] r h = refl
  null-then (b ∷ t) r h =
      let p = both (is_character allowed b) (all_characters allowed t) h in
      rw (character-not-null b p.0, p.0) (ap one_past (null-then t r p.1))

  -- a null after characters
  pub null-after : (t r : List ℕ) → all_characters allowed t ≡ true → null allowed (t ++ 0 ∷ r) ≡ Some (length t)
  unfolding null
  null-after t r h = null-then t (0 ∷ r) h ∙ past-at (length t)

  -- where fewer than n characters stand among the first n bytes, those are all
  pub count-stops : (n : ℕ) (s : List ℕ) → characters allowed (take n s) < n → characters allowed s ≡ characters allowed (take n s)
  unfolding characters
  count-stops zero s l = absurd (omega arith)
  count-stops (suc n) [] l = refl
  count-stops (suc n) (b ∷ s) l = stops-cons (is_character allowed b) (characters allowed (take n s)) (characters allowed s) n (count-stops n s) l

  -- and where the first n bytes are characters, the count goes on behind them
  pub count-goes : (n : ℕ) (s : List ℕ) → characters allowed (take n s) ≡ n → characters allowed s ≡ n + characters allowed (drop n s)
  unfolding characters
  count-goes zero s e = omega arith
  count-goes (suc n) [] e = absurd (omega arith)
  count-goes (suc n) (b ∷ s) e =
      goes-cons (is_character allowed b) (characters allowed (take n s)) (characters allowed s) (characters allowed (drop n s)) n (count-goes n s) e

  -- they end at the first byte that is none, or with all: one byte in front, by the test on it (t), and where the first behind it stands (r)
  place-cons : (t : Bool) (i n k : ℕ) (r : Option ℕ) → unwrap_or r (i + 1 + n) ≡ i + 1 + k → unwrap_or (cond (not t) (Some i) r) (i + suc n) ≡ i + cond t (suc k) 0
  place-cons true i n k r h =
      let e : i + suc n ≡ i + 1 + n = omega arith in
      let f : i + 1 + k ≡ i + suc k = omega arith in
      ap (unwrap_or r) e ∙ h ∙ f
  place-cons false i n k r h = omega arith

  place-from : (i : ℕ) (s : List ℕ) → unwrap_or (position_from (λ b. not (is_character allowed b)) i s) (i + length s) ≡ i + characters allowed s
  unfolding characters
  place-from i [] = refl
  place-from i (b ∷ s) =
      place-cons (is_character allowed b) i (length s) (characters allowed s) (position_from (λ c. not (is_character allowed c)) (i + 1) s) (place-from (i + 1) s)

  pub count-place : (s : List ℕ) → unwrap_or (position_from (λ b. not (is_character allowed b)) 0 s) (length s) ≡ characters allowed s
  count-place s = simp zero-add at (place-from 0 s)

  -- all are characters where as many are counted
  pub all-counted : (s : List ℕ) → eqb (characters allowed s) (length s) ≡ all_characters allowed s
  unfolding characters all_characters
  all-counted [] = refl
  all-counted (b ∷ s) = all_cons (is_character allowed b) (characters allowed s) (length s) (all_characters allowed s) (all-counted s)

  -- one byte b in front, by the tests on it
  null-cons : (b : ℕ) (s : List ℕ) (p q : Bool) → eqb b 0 ≡ p → is_character allowed b ≡ q → null allowed s ≡ null_behind (characters allowed s) s
      → cond p (Some 0) (cond q (one_past (null allowed s)) None) ≡ null_behind (cond q (suc (characters allowed s)) 0) (b ∷ s)
  unfolding null_behind
  null-cons b s true true e f h =
      let n = character-not-null b f in
      let z : ◌≡◌ {A = ℕ} 0 1 = cc in
      absurd (omega arith)
  null-cons b s true false e f h = let l : 0 < suc (length s) = omega arith in rw (lt-ltb 0 (suc (length s)) l, e)
  null-cons b s false true e f h =
      let n = characters allowed s in
      ap one_past h ∙ past-tests (ltb n (length s)) (eqb (get_or s n 0) 0) n
      ∙ ap (λ (p : Bool). cond p (cond (eqb (get_or s n 0) 0) (Some (suc n)) None) None) (sym (leb-suc-suc (suc n) (length s)))
  null-cons b s false false e f h = let l : 0 < suc (length s) = omega arith in rw (lt-ltb 0 (suc (length s)) l, e)

  -- the null stands right behind the characters, or nowhere
  null-behind : (s : List ℕ) → null allowed s ≡ null_behind (characters allowed s) s
  unfolding null null_behind characters
  null-behind [] = refl
  null-behind (b ∷ s) = null-cons b s (eqb b 0) (is_character allowed b) refl refl (null-behind s)

  -- the ways of a search that has counted n characters
  module _ (s : List ℕ) (n : ℕ) (h : n ≡ characters allowed s) where
    null-counted : null allowed s ≡ null_behind n s
    null-counted = null-behind s ∙ ap (λ (k : ℕ). null_behind k s) (sym h)

    pub null-here : n < length s → get_or s n 0 ≡ 0 → null allowed s ≡ Some n
    unfolding null_behind
    null-here l e = null-counted ∙ rw (lt-ltb n (length s) l, e)

    pub null-stopped : n < length s → (get_or s n 0 ≡ 0 → ⊥) → null allowed s ≡ None
    unfolding null_behind
    null-stopped l e = null-counted ∙ rw (lt-ltb n (length s) l, ne_eqb (get_or s n 0) 0 e)

    pub null-missing : length s ≤ n → null allowed s ≡ None
    unfolding null_behind
    null-missing l = null-counted ∙ rw (le-ltb n (length s) l)

  -- where the null was found, as many characters stand before it
  pub characters-null : (s : List ℕ) (n : ℕ) → null allowed s ≡ Some n → characters allowed s ≡ n
  unfolding null_behind
  characters-null s n e =
      at_place (ltb (characters allowed s) (length s)) (eqb (get_or s (characters allowed s) 0) 0) (characters allowed s) n (sym (null-behind s) ∙ e)

  -- a null that was found: only characters stand before it
  pub record NullAt (s : List ℕ) (n : ℕ) : Type 0 where
    pub within : n < length s
    pub characters : all_characters allowed (take n s) ≡ true

  -- one byte b in front, by what was found behind it (x), and by the tests on b (p that it is 0, q that it is a character)
  found-past : (b : ℕ) (s : List ℕ) (n : ℕ) (x : Option ℕ) → ((m : ℕ) → x ≡ Some m → NullAt s m) → is_character allowed b ≡ true → one_past x ≡ Some n → NullAt (b ∷ s) n
  unfolding one_past all_characters
  found-past b s n (Some m) h f e =
      let q : suc m ≡ n = cc in
      let r = h m refl in
      let l : m < length s = r.within in
      subst (λ (j : ℕ). NullAt (b ∷ s) j) q (record { within = omega arith; characters = rw f r.characters })
  found-past b s n None h f e = let z : ◌≡◌ {A = ℕ} 0 1 = cc in absurd (omega arith)

  found-cons : (b : ℕ) (s : List ℕ) (n : ℕ) → ((m : ℕ) → null allowed s ≡ Some m → NullAt s m) → (p q : Bool) → is_character allowed b ≡ q
      → cond p (Some 0) (cond q (one_past (null allowed s)) None) ≡ Some n → NullAt (b ∷ s) n
  unfolding all_characters
  found-cons b s n h true q f e =
      let z : 0 ≡ n = cc in
      subst (λ (j : ℕ). NullAt (b ∷ s) j) z (record { within = omega arith; characters = refl })
  found-cons b s n h false true f e = found-past b s n (null allowed s) h f e
  found-cons b s n h false false f e = let z : ◌≡◌ {A = ℕ} 0 1 = cc in absurd (omega arith)

  pub null-found : (s : List ℕ) (n : ℕ) → null allowed s ≡ Some n → NullAt s n
  unfolding null
  null-found [] n e = let z : ◌≡◌ {A = ℕ} 0 1 = cc in absurd (omega arith)
  null-found (b ∷ s) n e = found-cons b s n (null-found s) (eqb b 0) (is_character allowed b) refl e

  -- what the writer takes
  pub record Taken (w : ℕ) (t : List ℕ) : Type 0 where
    pub room : length t < w
    pub most : w ≤ 4096
    pub characters : all_characters allowed t ≡ true

  pub taken : (w : ℕ) (t : List ℕ) → takes allowed w t ≡ true → Taken w t
  unfolding takes
  taken w t h =
      let p = both (leb 1 w) (cond (leb w 4096) (cond (ltb (length t) w) (all_characters allowed t) false) false) h in
      let q = both (leb w 4096) (cond (ltb (length t) w) (all_characters allowed t) false) p.1 in
      let r = both (ltb (length t) w) (all_characters allowed t) q.1 in
      record { room = ltb-true (length t) w r.0; most = leb-true w 4096 q.0; characters = r.1 }

  -- where the width is allowed and the text and its null fit into it, the characters decide
  pub takes-by-characters : (w : ℕ) (t : List ℕ) → length t < w → w ≤ 4096 → takes allowed w t ≡ all_characters allowed t
  unfolding takes
  takes-by-characters w t h l =
      let p : 1 ≤ w = omega arith in
      rw (le-leb 1 w p, le-leb w 4096 l, lt-ltb (length t) w h)

  -- a field of its width, whatever stands behind it
  fixed_of : (w : ℕ) (x r : List ℕ) → length x ≡ w → fixed_text allowed w (x ++ r) ≡ ended w (null allowed x)
  unfolding fixed_text
  fixed_of w x r e =
      let l : w ≤ length (x ++ r) = rw length-append (omega arith) in
      rw (le-leb w (length (x ++ r)) l, take_at x r w e)

  -- the reader's answer by where it found the null
  pub fixed-read : (w : ℕ) (s : List ℕ) (x : Option ℕ) → w ≤ length s → null allowed (take w s) ≡ x → fixed_text allowed w s ≡ ended w x
  unfolding fixed_text
  fixed-read w s x l e = rw (le-leb w (length s) l, e)

  -- a written text is read back, whatever stands behind it
  module _ (w : ℕ) (t r : List ℕ) (h : takes allowed w t ≡ true) where
    pub fixed-again : fixed_text allowed w (fixed_bytes w t ++ r) ≡ good (length t) w
    unfolding fixed_bytes ended
    fixed-again =
        let k = taken w t h in
        let l : length t < w = k.room in
        let e : w - length t ≡ suc (w - suc (length t)) = omega arith in
        let z : fixed_bytes w t ≡ t ++ 0 ∷ replicate (w - suc (length t)) 0 = ap (λ (n : ℕ). t ++ replicate n 0) e in
        fixed_of w (fixed_bytes w t) r (length-fixed_bytes w t (omega arith))
        ∙ ap (λ (x : List ℕ). ended w (null allowed x)) z
        ∙ ap (ended w) (null-after t (replicate (w - suc (length t)) 0) k.characters)

    pub fixed-part-again : fixed_part allowed w (fixed_bytes w t ++ r) ≡ t
    unfolding fixed_part characters_of fixed_bytes
    fixed-part-again =
        ap (λ (x : Option Text). characters_of x (fixed_bytes w t ++ r)) fixed-again
        ∙ ap (take (length t)) (append_assoc t (replicate (w - length t) 0) r)
        ∙ take_at t (replicate (w - length t) 0 ++ r) (length t) refl

  -- a fixed text that is good
  pub record FixedGood (w : ℕ) (s : List ℕ) (n k : ℕ) : Type 0 where
    pub whole : w ≤ length s
    pub extent : k ≡ w
    pub ends : null allowed (take w s) ≡ Some n

  module _ (w : ℕ) (s : List ℕ) (n k : ℕ) (h : fixed_text allowed w s ≡ good n k) where
    pub fixed-good : FixedGood w s n k
    unfolding fixed_text
    fixed-good =
        let p = good-if (leb w (length s)) (ended w (null allowed (take w s))) n k h in
        let q = ended-good w (null allowed (take w s)) n k p.1 in
        record { whole = leb-true w (length s) p.0; extent = q.0; ends = q.1 }

    -- the null stands inside the field, and the field inside the bytes
    pub fixed-within : (n < k) × (k ≤ length s)
    fixed-within =
        let g = fixed-good in
        let e : k ≡ w = g.extent in
        let l : w ≤ length s = g.whole in
        let m : length (take w s) ≡ w = length-take-le w s l in
        let i : n < length (take w s) = (null-found (take w s) n g.ends).within in
        (omega arith, omega arith)

    -- the answer depends on the field's own bytes alone
    pub fixed-own : (r : List ℕ) → fixed_text allowed w (take k s ++ r) ≡ good n k
    unfolding ended
    fixed-own r =
        let g = fixed-good in
        ap (λ (j : ℕ). fixed_text allowed w (take j s ++ r)) g.extent
        ∙ fixed_of w (take w s) r (length-take-le w s g.whole) ∙ ap (ended w) g.ends ∙ ap (good n) (sym g.extent)

    -- the writer takes the characters
    pub fixed-writable : w ≤ 4096 → takes allowed w (take n s) ≡ true
    fixed-writable l =
        let g = fixed-good in
        let i = fixed-within in
        let e : k ≡ w = g.extent in
        let a : n < k = i.0 in
        let b : k ≤ length s = i.1 in
        let m : length (take n s) ≡ n = length-take-le n s (omega arith) in
        takes-by-characters w (take n s) (omega arith) l
        ∙ ap (all_characters allowed) (sym (take-take n w s (omega arith))) ∙ (null-found (take w s) n g.ends).characters

  -- a length p and as many bytes x, whatever stands behind them
  variable-of : (size : ℕ) (p x r : List ℕ) → length p ≡ 2 → number p ≡ length x → length x ≤ size
      → variable_text allowed size (p ++ (x ++ r)) ≡ ended (2 + length x) (null allowed x)
  unfolding variable_text variable_body
  variable-of size p x r e q l =
      let a : 2 ≤ length (p ++ (x ++ r)) = rw length-append (omega arith) in
      let b : length x ≤ length (x ++ r) = rw length-append (omega arith) in
      rw (le-leb 2 (length (p ++ (x ++ r))) a, take_at p (x ++ r) 2 e, drop_at p (x ++ r) 2 e, q, le-leb (length x) size l, le-leb (length x) (length (x ++ r)) b, take_at x r (length x) refl)

  -- the reader's answers, n being the length that it read: too long, cut off, or by where the null was found
  module _ (size : ℕ) (s : List ℕ) (n : ℕ) (b : 2 ≤ length s) (q : n ≡ number (take 2 s)) where
    pub variable-long : size < n → variable_text allowed size s ≡ None
    unfolding variable_text variable_body
    variable-long l = rw (le-leb 2 (length s) b, ← q, lt-leb n size l)

    module _ (l : n ≤ size) where
      pub variable-cut : length s < 2 + n → variable_text allowed size s ≡ None
      unfolding variable_text variable_body
      variable-cut a =
          let m : length (drop 2 s) < n = rw length-drop (omega arith) in
          rw (le-leb 2 (length s) b, ← q, le-leb n size l, lt-leb n (length (drop 2 s)) m)

      pub variable-read : 2 + n ≤ length s → (x : Option ℕ) → null allowed (take n (drop 2 s)) ≡ x → variable_text allowed size s ≡ ended (2 + n) x
      unfolding variable_text variable_body
      variable-read a x e =
          let m : n ≤ length (drop 2 s) = rw length-drop (omega arith) in
          rw (le-leb 2 (length s) b, ← q, le-leb n size l, le-leb n (length (drop 2 s)) m, e)

  -- a written text is read back, whatever stands behind it
  module _ (w : ℕ) (t r : List ℕ) (h : takes allowed w t ≡ true) where
    pub variable-again : variable_text allowed w (variable_bytes t ++ r) ≡ good (length t) (length t + 3)
    unfolding variable_bytes ended
    variable-again =
        let k = taken w t h in
        let x : List ℕ = t ++ 0 ∷ [] in
        let m : length x ≡ length t + 1 = length-append t (0 ∷ []) in
        let f : length t + 1 < 256 ^ 2 = omega arith in
        let e : 2 + length x ≡ length t + 3 = omega arith in
        ap (variable_text allowed w) (append_assoc (number_bytes 2 (length t + 1)) x r)
        ∙ variable-of w (number_bytes 2 (length t + 1)) x r (length-number_bytes 2 (length t + 1)) (number-number_bytes 2 (length t + 1) f ∙ sym m) (omega arith)
        ∙ ap (ended (2 + length x)) (null-after t [] k.characters) ∙ ap (good (length t)) e

    pub variable-part-again : variable_part allowed w (variable_bytes t ++ r) ≡ t
    unfolding variable_part characters_of variable_bytes
    variable-part-again =
        let p = number_bytes 2 (length t + 1) in
        ap (λ (x : Option Text). characters_of x (drop 2 (variable_bytes t ++ r))) variable-again
        ∙ ap (λ (x : List ℕ). take (length t) (drop 2 x)) (append_assoc p (t ++ 0 ∷ []) r)
        ∙ ap (take (length t)) (drop_at p ((t ++ 0 ∷ []) ++ r) 2 (length-number_bytes 2 (length t + 1)) ∙ append_assoc t (0 ∷ []) r)
        ∙ take_at t (0 ∷ r) (length t) refl

  -- a variable text that is good
  pub record VariableGood (size : ℕ) (s : List ℕ) (n k : ℕ) : Type 0 where
    pub most : number (take 2 s) ≤ size
    pub whole : 2 + number (take 2 s) ≤ length s
    pub extent : k ≡ 2 + number (take 2 s)
    pub ends : null allowed (take (number (take 2 s)) (drop 2 s)) ≡ Some n

  module _ (size : ℕ) (s : List ℕ) (n k : ℕ) (h : variable_text allowed size s ≡ good n k) where
    pub variable-good : VariableGood size s n k
    unfolding variable_text variable_body
    variable-good =
        let m = number (take 2 s) in
        let x = drop 2 s in
        let p = good-if (leb 2 (length s)) (variable_body allowed size m x) n k h in
        let q = good-if (leb m size) (cond (leb m (length x)) (ended (2 + m) (null allowed (take m x))) None) n k p.1 in
        let r = good-if (leb m (length x)) (ended (2 + m) (null allowed (take m x))) n k q.1 in
        let e = ended-good (2 + m) (null allowed (take m x)) n k r.1 in
        let a : 2 ≤ length s = leb-true 2 (length s) p.0 in
        let b : m ≤ length x = leb-true m (length x) r.0 in
        record { most = leb-true m size q.0; whole = omega (arith, length-drop 2 s); extent = e.0; ends = e.1 }

    variable-length : length (take (number (take 2 s)) (drop 2 s)) ≡ number (take 2 s)
    variable-length =
        let m = number (take 2 s) in
        let l : 2 + m ≤ length s = variable-good.whole in
        let b : m ≤ length (drop 2 s) = rw length-drop (omega arith) in
        length-take-le m (drop 2 s) b

    -- the null stands inside the field, behind the length, and the field inside the bytes
    pub variable-within : (2 + n < k) × (k ≤ length s)
    variable-within =
        let g = variable-good in
        let e : k ≡ 2 + number (take 2 s) = g.extent in
        let l : 2 + number (take 2 s) ≤ length s = g.whole in
        let m = variable-length in
        let i : n < length (take (number (take 2 s)) (drop 2 s)) = (null-found (take (number (take 2 s)) (drop 2 s)) n g.ends).within in
        (omega arith, omega arith)

    -- the answer depends on the field's own bytes alone
    pub variable-own : (r : List ℕ) → variable_text allowed size (take k s ++ r) ≡ good n k
    unfolding ended
    variable-own r =
        let g = variable-good in
        let m = number (take 2 s) in
        let x = take m (drop 2 s) in
        let l : 2 + m ≤ length s = g.whole in
        let a : 2 ≤ length s = omega arith in
        let e = variable-length in
        let b : length x ≤ size = omega (arith, g.most, e) in
        ap (λ (j : ℕ). variable_text allowed size (take j s ++ r)) g.extent
        ∙ ap (λ (y : List ℕ). variable_text allowed size (y ++ r)) (take-add 2 m s)
        ∙ ap (variable_text allowed size) (append_assoc (take 2 s) x r)
        ∙ variable-of size (take 2 s) x r (length-take-le 2 s a) (sym e) b
        ∙ ap (ended (2 + length x)) g.ends ∙ ap (λ (j : ℕ). good n (2 + j)) e ∙ ap (good n) (sym g.extent)

    -- the writer takes the characters
    pub variable-writable : size ≤ 4096 → takes allowed size (take n (drop 2 s)) ≡ true
    variable-writable l =
        let g = variable-good in
        let m = number (take 2 s) in
        let i = variable-within in
        let e : k ≡ 2 + m = g.extent in
        let a : 2 + n < k = i.0 in
        let b : k ≤ length s = i.1 in
        let f : m ≤ size = g.most in
        let c : n ≤ length (drop 2 s) = rw length-drop (omega arith) in
        let d : length (take n (drop 2 s)) ≡ n = length-take-le n (drop 2 s) c in
        takes-by-characters size (take n (drop 2 s)) (omega arith) l
        ∙ ap (all_characters allowed) (sym (take-take n m (drop 2 s) (omega arith))) ∙ (null-found (take m (drop 2 s)) n g.ends).characters

  -- the characters of any text, also of a bad one, fit its field: they are no more than a fixed text's width, and with the null no more than
  -- two bytes count
  module _ (w : ℕ) (s : List ℕ) where
    fixed-fits-by : (x : Option Text) → fixed_text allowed w s ≡ x → length (characters_of x s) ≤ w
    unfolding characters_of
    fixed-fits-by (Some text) h =
        let n = text.characters in
        let k = text.taken in
        let i = fixed-within w s n k h in
        let e : k ≡ w = (fixed-good w s n k h).extent in
        let m : length (take n s) ≡ n = length-take-le n s (omega arith) in
        omega arith
    fixed-fits-by None h = omega arith

    pub fixed-fits : length (fixed_part allowed w s) ≤ w
    unfolding fixed_part
    fixed-fits = fixed-fits-by (fixed_text allowed w s) refl

    variable-fits-by : Bytes s → (x : Option Text) → variable_text allowed w s ≡ x → length (characters_of x (drop 2 s)) + 1 < 256 ^ 2
    unfolding characters_of
    variable-fits-by b (Some text) h =
        let n = text.characters in
        let k = text.taken in
        let i = variable-within w s n k h in
        let e : k ≡ 2 + number (take 2 s) = (variable-good w s n k h).extent in
        let f : number (take 2 s) < 256 ^ 2 = number-take s 2 b in
        let l : n ≤ length (drop 2 s) = rw length-drop (omega arith) in
        let m : length (take n (drop 2 s)) ≡ n = length-take-le n (drop 2 s) l in
        omega arith
    variable-fits-by b None h = omega arith

    pub variable-fits : Bytes s → length (variable_part allowed w s) + 1 < 256 ^ 2
    unfolding variable_part
    variable-fits b = variable-fits-by b (variable_text allowed w s) refl
