-- Bytes laid at the front of a lent buffer, and more bytes laid behind them by a writer that was lent the rest of it.
use Rattle.std.proofs.Common.{◌≡◌, ℕ, ◌+◌, ◌-◌, ◌≤◌, Bool, true, false, cond, leb, List, [], ◌++◌, length, take, drop, sym, refl, ap, ◌∙◌, ap₂, append_assoc, append-nil, arith, length-append, length-drop, take-append-drop, drop_of_length-le, length-take-le, drop-drop, take_at, drop_at, le-leb, Ok, Err}
use Rattle.wire.specs.declared.text.Allowed.{Allowed}
use Rattle.wire.specs.declared.laying.NotLaid.TheVariants.{NoRoom}
use Rattle.wire.specs.Laying.{at_front, besides, laid, laid_answer}
use Rattle.wire.specs.Number.{number_bytes}
use Rattle.wire.specs.Text.{takes, fixed_bytes, fixed_laid}
use Rattle.wire.proofs.NumberLaws.{length-number_bytes}
use Rattle.wire.proofs.TestLaws.{rest_of}

module _ (e d : List ℕ) (h : length e ≤ length d) where
  pub laid-there : laid e d ≡ e ++ drop (length e) d
  unfolding laid
  laid-there = rw (le-leb (length e) (length d) h)

  pub length-laid : length (laid e d) ≡ length d
  length-laid = ap length laid-there ∙ simp (length-append, length-drop) (omega arith)

  pub take-laid : take (length e) (laid e d) ≡ e
  take-laid = ap (take (length e)) laid-there ∙ take_at e (drop (length e) d) (length e) refl

  pub drop-laid : drop (length e) (laid e d) ≡ drop (length e) d
  drop-laid = ap (drop (length e)) laid-there ∙ drop_at e (drop (length e) d) (length e) refl

-- the length written, or needed
pub besides-laid : (e d : List ℕ) → besides (laid_answer e d) ≡ length e
unfolding besides laid_answer
besides-laid e d = go (leb (length e) (length d))
  where
    go : (b : Bool) → besides (cond b (Ok (length e)) (Err (NoRoom (length e)))) ≡ length e
    go true = refl
    go false = refl

-- the length written, where there is room
pub wrote-laid : (e d : List ℕ) → length e ≤ length d → laid_answer e d ≡ Ok (length e)
unfolding laid_answer
wrote-laid e d h = rw (le-leb (length e) (length d) h) refl

-- the whole buffer x, whose rest from a on was lent, and is y afterwards
abbrev pub lent_from : ℕ → List ℕ → List ℕ → List ℕ
lent_from a x y = take a x ++ (y ++ drop (length x - a) (drop a x))

module _ (a : ℕ) (x e : List ℕ) (h : a + length e ≤ length x) where
  -- e at the front of the rest
  pub lent_laid : (y : List ℕ) → y ≡ laid e (take (length x - a) (drop a x)) → lent_from a x y ≡ take a x ++ (e ++ drop (a + length e) x)
  lent_laid y q =
      let l : length (drop a x) ≡ length x - a = length-drop a x in
      let none : drop (length x - a) (drop a x) ≡ [] = drop_of_length-le (drop a x) {i = length x - a} (omega arith) in
      let r : y ≡ e ++ drop (a + length e) x =
      q ∙ ap (laid e) (rest_of x a) ∙ laid-there e (drop a x) (omega arith)
      ∙ ap (λ (z : List ℕ). e ++ z) (drop-drop (length e) a x) in
      ap₂ (λ (z u : List ℕ). take a x ++ (z ++ u)) r none
      ∙ ap (λ (z : List ℕ). take a x ++ z) (append-nil (e ++ drop (a + length e) x))

-- w stands at the front of d, and then e is laid behind it
pub laid-behind : (w e d x y : List ℕ) (a : ℕ) → length w ≡ a → a + length e ≤ length d → x ≡ laid w d
    → y ≡ laid e (take (length x - a) (drop a x)) → lent_from a x y ≡ laid (w ++ e) d
laid-behind w e d x y a l h p q =
    let i : length w ≤ length d = omega arith in
    let n : length (w ++ e) ≡ a + length e = length-append w e ∙ ap (λ (k : ℕ). k + length e) l in
    let m : length x ≡ length d = ap length p ∙ length-laid w d i in
    let t : take a x ≡ w = ap₂ take (sym l) p ∙ take-laid w d i in
    let u : drop a x ≡ drop a d = ap₂ drop (sym l) p ∙ drop-laid w d i ∙ ap (λ (k : ℕ). drop k d) l in
    let v : drop (a + length e) x ≡ drop (length (w ++ e)) d =
    sym (drop-drop (length e) a x) ∙ ap (drop (length e)) u ∙ drop-drop (length e) a d ∙ ap (λ (k : ℕ). drop k d) (sym n) in
    lent_laid a x e (omega arith) y q
    ∙ ap₂ (λ (z s : List ℕ). z ++ (e ++ s)) t v
    ∙ sym (append_assoc w e (drop (length (w ++ e)) d)) ∙ sym (laid-there (w ++ e) d (omega arith))

-- the same of a writer that was lent enough room
pub front-behind : (w e d x y : List ℕ) (a : ℕ) → length w ≡ a → a + length e ≤ length d → x ≡ at_front w d
    → y ≡ at_front e (take (length x - a) (drop a x)) → lent_from a x y ≡ at_front (w ++ e) d
front-behind w e d x y a l h p q =
    let i : length w ≤ length d = omega arith in
    let m : length x ≡ length d = ap length (p ∙ sym (laid-there w d i)) ∙ length-laid w d i in
    let r : length (take (length x - a) (drop a x)) ≡ length x - a = ap length (rest_of x a) ∙ length-drop a x in
    laid-behind w e d x y a l h (p ∙ sym (laid-there w d i)) (q ∙ sym (laid-there e (take (length x - a) (drop a x)) (omega arith)))
    ∙ laid-there (w ++ e) d (omega (arith, length-append w e))

-- x is the buffer d with w, which has a bytes, laid at its front
pub record Front (w : List ℕ) (a : ℕ) (d x : List ℕ) : Type 0 where
  pub size : length w ≡ a
  pub is : x ≡ laid w d

-- and then e, which ends at b
pub front-on : {w : List ℕ} {a : ℕ} {d x : List ℕ} → Front w a d x → (e y : List ℕ) (b : ℕ) → a + length e ≡ b → b ≤ length d
    → y ≡ laid e (take (length x - a) (drop a x)) → Front (w ++ e) b d (lent_from a x y)
front-on {w} {a} {d} {x} f e y b n h q =
    record {
      size = length-append w e ∙ ap (λ (k : ℕ). k + length e) f.size ∙ n;
      is = laid-behind w e d x y a f.size (omega arith) f.is q;
    }

-- a number of k bytes
pub number-on : {w : List ℕ} {a : ℕ} {d x : List ℕ} → Front w a d x → (k n : ℕ) (y : List ℕ) → a + k ≤ length d
    → y ≡ laid (number_bytes k n) (take (length x - a) (drop a x)) → Front (w ++ number_bytes k n) (a + k) d (lent_from a x y)
number-on {w} {a} {d} {x} f k n y h q =
    front-on f (number_bytes k n) y (a + k) (ap (λ (j : ℕ). a + j) (length-number_bytes k n)) h q

-- laid over what was laid, if that was its beginning
pub laid-over : (w e d : List ℕ) → length (w ++ e) ≤ length d → laid (w ++ e) (laid w d) ≡ laid (w ++ e) d
laid-over w e d h =
    let n : length (w ++ e) ≡ length w + length e = length-append w e in
    let i : length w ≤ length d = omega arith in
    let l : length (laid w d) ≡ length d = length-laid w d i in
    let b : drop (length w + length e) (laid w d) ≡ drop (length w + length e) d =
    sym (drop-drop (length e) (length w) (laid w d)) ∙ ap (drop (length e)) (drop-laid w d i) ∙ drop-drop (length e) (length w) d in
    laid-there (w ++ e) (laid w d) (omega arith)
    ∙ ap (λ (x : List ℕ). (w ++ e) ++ x) (ap (λ (k : ℕ). drop k (laid w d)) n ∙ b ∙ ap (λ (k : ℕ). drop k d) (sym n))
    ∙ sym (laid-there (w ++ e) d h)

-- what is there already
pub front-own : (k : ℕ) (d : List ℕ) → k ≤ length d → Front (take k d) k d d
front-own k d h =
    let l : length (take k d) ≡ k = length-take-le k d h in
    record {
      size = l;
      is =
          sym (take-append-drop k d) ∙ ap (λ (j : ℕ). take k d ++ drop j d) (sym l)
          ∙ sym (laid-there (take k d) d (omega arith));
    }

-- the text writer lays a text that it takes
pub fixed-laid : (allowed : Allowed) (w : ℕ) (t d : List ℕ) → takes allowed w t ≡ true → fixed_laid allowed w t d ≡ laid (fixed_bytes w t) d
unfolding fixed_laid
fixed-laid allowed w t d h = rw h
