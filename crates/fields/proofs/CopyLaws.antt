-- What is laid at the front of a buffer, as the functions that lay a plain form hand it on.
use Rattle.std.specs.Prelude.{Result, Ok, None}
use mathlib.Core.Path.{◌≡◌, refl, sym, ap, subst, ◌∙◌}
use mathlib.Core.List.{List, [], ◌∷◌, ◌++◌}
use Prim.Native.Nat.{ℕ, ◌≤◌}
use native.Mathlib.Omega.{arith}
use lib.ListN.{length, get_or, set, take, drop}
use lib.Seq.{length-take-le}
use Rattle.tables.specs.declared.table.Row.{Row}
use Rattle.tables.specs.declared.table.Row.TheVariants.{Required, Optional, UnknownPosition, UnknownType}
use Rattle.tables.specs.Line.{field_of}
use Rattle.wire.specs.declared.laying.NotLaid.{NotLaid}
use Rattle.wire.specs.Laying.{laid, laid_answer}
use Rattle.wire.specs.Number.{Bytes, number, number_bytes}
use Rattle.fields.specs.Plain.{plain_row}
use Rattle.wire.proofs.LayingLaws.{laid-yes}
use Rattle.wire.proofs.NumberLaws.{bytes_take, number_bytes-number}

-- equal bytes are laid alike
pub laid_as : (x y d e : List ℕ) (r : Result ℕ NotLaid) → x ≡ y → (r ≡ laid_answer x d) × (e ≡ laid x d) → (r ≡ laid_answer y d) × (e ≡ laid y d)
laid_as x y d e r q h = subst (λ (bs : List ℕ). (r ≡ laid_answer bs d) × (e ≡ laid bs d)) q h

-- no bytes are laid anywhere
laid_none : (d : List ℕ) → (Ok 0 ≡ laid_answer [] d) × (d ≡ laid [] d)
laid_none d = laid-yes [] d 0 refl (omega arith) d refl

-- so of a row that names no field
unnamed : (row : Row) (s : List ℕ) → field_of row ≡ None → [] ≡ plain_row row s
unfolding field_of plain_row
unnamed (Required f) s e = let z : ◌≡◌ {A = ℕ} 0 1 = cc in absurd (omega arith)
unnamed (Optional f) s e = let z : ◌≡◌ {A = ℕ} 0 1 = cc in absurd (omega arith)
unnamed UnknownPosition s e = refl
unnamed UnknownType s e = refl

pub laid_unnamed : (row : Row) (s d : List ℕ) → field_of row ≡ None → (Ok 0 ≡ laid_answer (plain_row row s) d) × (d ≡ laid (plain_row row s) d)
laid_unnamed row s d e = laid_as [] (plain_row row s) d d (Ok 0) (unnamed row s e) (laid_none d)

-- one byte laid by itself
first-set : (s d : List ℕ) → 1 ≤ length s → 1 ≤ length d → set d 0 (get_or s 0 0) ≡ take 1 s ++ drop 1 d
first-set [] d h g = absurd (omega arith)
first-set (b ∷ s) [] h g = absurd (omega arith)
first-set (b ∷ s) (x ∷ d) h g = refl

pub laid_one : (s d : List ℕ) (width : ℕ) → width ≡ 1 → 1 ≤ length s → 1 ≤ length d
    → (Ok 1 ≡ laid_answer (take width s) d) × (set d 0 (get_or s 0 0) ≡ laid (take width s) d)
laid_one s d width e h g =
    laid_as (take 1 s) (take width s) d _ _ (ap (λ (n : ℕ). take n s) (sym e))
    (laid-yes (take 1 s) d 1 (length-take-le 1 s h) g _ (first-set s d h g))

-- eight bytes come back from their number
pub eight-again : (s : List ℕ) → 8 ≤ length s → Bytes s → number_bytes 8 (number (take 8 s)) ≡ take 8 s
eight-again s h b =
    ap (λ (w : ℕ). number_bytes w (number (take 8 s))) (sym (length-take-le 8 s h)) ∙ number_bytes-number (take 8 s) (bytes_take 8 s b)
