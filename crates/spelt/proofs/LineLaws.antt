-- The first line's length is where the first line end is found, or the length of all.
use Rattle.std.proofs.Common.{◌≡◌, ℕ, suc, ◌+◌, ◌≤◌, Bool, true, false, cond, eqb, List, [], ◌∷◌, length, refl, ap, ◌∙◌, arith, zero-add, Some}
use Rattle.std.specs.List.{position_from}
use Rattle.std.specs.Option.{unwrap_or}
use Rattle.spelt.specs.Lines.{line_length}

abbrev ends : ℕ → Bool
ends b = eqb b 10

-- by the test on the byte in front
found : (t : Bool) (i n l : ℕ) (s : List ℕ) → unwrap_or (position_from ends (i + 1) s) (i + 1 + n) ≡ i + 1 + l
    → unwrap_or (cond t (Some i) (position_from ends (i + 1) s)) (i + suc n) ≡ i + cond t 0 (suc l)
found true i n l s h = omega arith
found false i n l s h =
    let e : i + suc n ≡ i + 1 + n = omega arith in
    let f : i + 1 + l ≡ i + suc l = omega arith in
    ap (unwrap_or (position_from ends (i + 1) s)) e ∙ h ∙ f

first-end : (i : ℕ) (s : List ℕ) → unwrap_or (position_from ends i s) (i + length s) ≡ i + line_length s
unfolding line_length
first-end i [] = refl
first-end i (b ∷ s) = found (eqb b 10) i (length s) (line_length s) s (first-end (i + 1) s)

pub line-found : (s : List ℕ) → unwrap_or (position_from (λ b. eqb b 10) 0 s) (length s) ≡ line_length s
line-found s = simp zero-add at (first-end 0 s)

within : (t : Bool) (l n : ℕ) → l ≤ n → cond t 0 (suc l) ≤ suc n
within true l n h = omega arith
within false l n h = omega arith

pub line-within : (s : List ℕ) → line_length s ≤ length s
unfolding line_length
line-within [] = omega arith
line-within (b ∷ s) = within (eqb b 10) (line_length s) (length s) (line-within s)
