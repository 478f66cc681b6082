-- How long a good body is: no field is longer than its sort allows, so no body than its rows allow; and its plain form is no longer than the body.
use mathlib.Core.Path.{◌≡◌, refl, ◌∙◌}
use mathlib.Core.Bool.{Bool, true, false}
use mathlib.Core.List.{List, [], ◌∷◌}
use Prim.Native.Nat.{ℕ, zero, suc, ◌+◌, ◌≤◌}
use native.Mathlib.Omega.{arith}
use lib.ListN.{length, take, drop, length-drop}
use Rattle.tables.specs.declared.dictionary.Field.{Field}
use Rattle.tables.specs.declared.dictionary.Sort.{Sort}
use Rattle.tables.specs.declared.dictionary.Sort.TheVariants.{Number, Decimal, Byte, YesNo, Fixed, Variable}
use Rattle.tables.specs.declared.table.Row.{Row}
use Rattle.tables.specs.Agree.{Names, names-required, names-optional}
use Rattle.tables.specs.Dictionary.{sort_of}
use Rattle.tables.specs.Longest.{most_of, most_at, most_from}
use Rattle.wire.specs.Map.{map_positions, present}
use Rattle.wire.specs.Number.{number}
use Rattle.wire.proofs.TextLaws.{fixed-good, variable-good}
use Rattle.fields.specs.Check.{check_sort, check_row, good_field}
use Rattle.fields.specs.Cut.{positions}
use Rattle.fields.specs.Walk.{walk_of, all_good}
use Rattle.fields.proofs.CheckLaws.{whole-good, yes-no-good, fixed-checked, variable-checked, row-good, row_within}
use Rattle.fields.proofs.WalkLaws.{walk_from, walk-ended, walk_first, walk-whole}

sort-most : (sort : Sort) (taken plain : ℕ) (s : List ℕ) → check_sort sort s ≡ good_field taken plain → taken ≤ most_of sort
unfolding check_sort most_of
sort-most (Number w) taken plain s h = omega (arith, (whole-good w s taken plain h).extent)
sort-most Decimal taken plain s h = omega (arith, (whole-good 8 s taken plain h).extent)
sort-most Byte taken plain s h = omega (arith, (whole-good 1 s taken plain h).extent)
sort-most YesNo taken plain s h = omega (arith, (yes-no-good s taken plain h).extent)
sort-most (Fixed allowed w) taken plain s h =
    let g = (fixed-checked allowed w s taken plain h).text in
    omega (arith, (fixed-good allowed w s g.characters taken g.good).extent)
sort-most (Variable allowed size) taken plain s h =
    let g = (variable-checked allowed size s taken plain h).text in
    let v = variable-good allowed size s g.characters taken g.good in
    let m : number (take 2 s) ≤ size = v.most in
    omega (arith, v.extent)

names-most : {row : Row} {f : Field} → Names row f → most_at row ≡ most_of (sort_of f)
unfolding most_at
names-most names-required = refl
names-most names-optional = refl

row-most : (row : Row) (taken plain : ℕ) (s : List ℕ) → check_row row s ≡ good_field taken plain → taken ≤ most_at row
row-most row taken plain s h =
    let g = row-good row s taken plain h in
    rw (names-most g.names) (sort-most (sort_of g.field) taken plain s g.good)

module _ (rows : ℕ → Row) (left plain : ℕ) where
  module _ (m : List ℕ) where
    -- one position more; `here` says whether the map has it
    most_step : (n p sum : ℕ) (s : List ℕ) (here : Bool) → present m p ≡ here
        → ((sum : ℕ) (s : List ℕ) → walk_from rows (positions m n (suc p)) sum s ≡ all_good left plain → length s ≤ left + most_from rows n (suc p))
        → walk_from rows (positions m (suc n) p) sum s ≡ all_good left plain → length s ≤ left + most_from rows (suc n) p
    unfolding positions most_from
    most_step n p sum s true h again e =
        let x = walk_first rows left plain p (positions m n (suc p)) sum s (rw h at e) in
        let a = row-most (rows p) x.taken x.plain-length s x.good in
        let b = again (sum + x.plain-length) (drop x.taken s) x.on in
        omega (arith, length-drop x.taken s)
    most_step n p sum s false h again e = omega (arith, again sum s (rw h at e))

    walk-most : (n p sum : ℕ) (s : List ℕ) → walk_from rows (positions m n p) sum s ≡ all_good left plain → length s ≤ left + most_from rows n p
    unfolding positions most_from
    walk-most zero p sum s e = omega (arith, (walk-ended rows left plain sum s e).behind)
    walk-most (suc n) p sum s e = most_step n p sum s (present m p) refl (walk-most n (suc p)) e

  walk-shorter : (ps : List ℕ) (sum : ℕ) (s : List ℕ) → walk_from rows ps sum s ≡ all_good left plain → plain + left ≤ sum + length s
  walk-shorter [] sum s e =
      let x = walk-ended rows left plain sum s e in
      omega (arith, x.behind, x.total)
  walk-shorter (p ∷ ps) sum s e =
      let x = walk_first rows left plain p ps sum s e in
      let w = row_within (rows p) x.taken x.plain-length s x.good in
      omega (arith, walk-shorter ps (sum + x.plain-length) (drop x.taken s) x.on, length-drop x.taken s)

  -- of a body
  pub fields-most : (m body : List ℕ) → walk_of rows m body ≡ all_good left plain → length body ≤ left + most_from rows map_positions 0
  fields-most m body e = walk-most m map_positions 0 0 body (walk-whole rows m body ∙ e)

  pub fields-shorter : (m body : List ℕ) → walk_of rows m body ≡ all_good left plain → plain + left ≤ length body
  fields-shorter m body e = omega (arith, walk-shorter (positions m map_positions 0) 0 body (walk-whole rows m body ∙ e))
