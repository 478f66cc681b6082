-- How bytes are laid behind others.
use mathlib.Core.Path.{◌≡◌, sym, ap, ◌∙◌}
use Prim.Native.Nat.{ℕ, suc, ◌+◌, ◌<◌}
use native.Mathlib.Numerals.{add-one}
use native.Mathlib.Omega.{arith}
use mathlib.Core.List.{List, [], ◌∷◌, ◌++◌, append_assoc}
use lib.ListN.{length, get_or, set, take}
use lib.Seq.{take-suc, take-suc-set}

-- one byte more of w behind the first `at`
pub put-more : (d d₀ w : List ℕ) (at i : ℕ) → i < length w → at + i < length d → take (at + i) d ≡ take at d₀ ++ take i w
    → take (at + (i + 1)) (set d (at + i) (get_or w i 0)) ≡ take at d₀ ++ take (i + 1) w
put-more d d₀ w at i h l e =
    let s : at + (i + 1) ≡ suc (at + i) = omega arith in
    ap (λ (k : ℕ). take k (set d (at + i) (get_or w i 0))) s ∙ take-suc-set d (at + i) (get_or w i 0) l
    ∙ ap (λ (x : List ℕ). x ++ get_or w i 0 ∷ []) e ∙ append_assoc (take at d₀) (take i w) (get_or w i 0 ∷ [])
    ∙ ap (λ (x : List ℕ). take at d₀ ++ x) (sym (take-suc w i 0 h) ∙ ap (λ (k : ℕ). take k w) (sym (add-one i)))

-- parts laid one behind the other, as a line is written
pub in_order : (a b x k y l z m o : List ℕ)
    → (((((((a ++ b) ++ x) ++ k) ++ y) ++ l) ++ z) ++ m) ++ o ≡ a ++ (b ++ (x ++ (k ++ (y ++ (l ++ (z ++ (m ++ o)))))))
in_order a b x k y l z m o = simp append_assoc
