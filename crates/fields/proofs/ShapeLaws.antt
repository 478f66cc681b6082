-- What the shape of a field stands for: its check, its extent, its plain form and its value, whatever bytes it begins.
use mathlib.Core.Path.{◌≡◌, refl, sym, ap, subst, ◌∙◌}
use mathlib.Core.Bool.{Bool, true, false, cond}
use mathlib.Core.List.{List}
use Prim.Native.Nat.{ℕ}
use native.Mathlib.Omega.{arith}
use lib.Dec.{eqb}
use lib.ListN.{take}
use borrow.Author.Tests.{eqb-true}
use Rattle.wire.specs.declared.text.Allowed.{Allowed}
use Rattle.tables.specs.declared.dictionary.Field.{Field}
use Rattle.tables.specs.declared.dictionary.Sort.{Sort}
use Rattle.tables.specs.declared.dictionary.Sort.TheVariants as sort
use Rattle.tables.specs.declared.table.Row.{Row}
use Rattle.tables.specs.declared.table.Row.TheVariants.{Required, Optional, UnknownPosition, UnknownType}
use Rattle.tables.specs.Dictionary.{sort_of}
use Rattle.tables.specs.Tables.{row_of}
use Rattle.wire.specs.Text.{fixed_text, fixed_part, fixed_bytes}
use Rattle.fields.specs.declared.check.Checked.{Checked}
use Rattle.fields.specs.declared.check.Reason.{Reason}
use Rattle.fields.specs.declared.check.Shape.{Shape}
use Rattle.fields.specs.declared.check.Shape.TheVariants.{Number, Decimal, Fixed, Other}
use Rattle.fields.specs.declared.value.Value.{Value}
use Rattle.fields.specs.declared.value.NoValue.{NoValue}
use Rattle.std.specs.Prelude.{Result}
use Rattle.fields.specs.Check.{whole, fixed, check_sort, check_row}
use Rattle.fields.specs.Cut.{extent, extent_of}
use Rattle.fields.specs.Plain.{plain_sort, plain_row}
use Rattle.fields.specs.Shapes.{shape_in, shape_of, shape_at}
use Rattle.fields.specs.Value.{number_value, decimal_value, text_value, sort_value, field_value, row_value}

-- what a row says of the field at the front of s, which the map has
pub record Told (row : Row) (s : List ℕ) (c : Result Checked Reason) (n : ℕ) (x : List ℕ) (v : Result Value NoValue) : Type 0 where
  pub check : check_row row s ≡ c
  pub taken : extent_of row s ≡ n
  pub plain : plain_row row s ≡ x
  pub value : row_value row true s ≡ v

-- and a sort
record Sorted (sort : Sort) (s : List ℕ) (c : Result Checked Reason) (n : ℕ) (x : List ℕ) (v : Result Value NoValue) : Type 0 where
  check : check_sort sort s ≡ c
  taken : extent sort s ≡ n
  plain : plain_sort sort s ≡ x
  value : sort_value sort s ≡ v

-- one shape is no other
number-decimal : {A : Type 0} {w : ℕ} → Number w ≡ Decimal → A
number-decimal e = let z : ◌≡◌ {A = ℕ} 0 1 = cc in absurd (omega arith)

number-fixed : {A : Type 0} {v : ℕ} {allowed : Allowed} {w : ℕ} → Number v ≡ Fixed allowed w → A
number-fixed e = let z : ◌≡◌ {A = ℕ} 0 1 = cc in absurd (omega arith)

decimal-fixed : {A : Type 0} {allowed : Allowed} {w : ℕ} → Decimal ≡ Fixed allowed w → A
decimal-fixed e = let z : ◌≡◌ {A = ℕ} 0 1 = cc in absurd (omega arith)

number-other : {A : Type 0} {w : ℕ} → Number w ≡ Other → A
number-other e = let z : ◌≡◌ {A = ℕ} 0 1 = cc in absurd (omega arith)

decimal-other : {A : Type 0} → Decimal ≡ Other → A
decimal-other e = let z : ◌≡◌ {A = ℕ} 0 1 = cc in absurd (omega arith)

fixed-other : {A : Type 0} {allowed : Allowed} {w : ℕ} → Fixed allowed w ≡ Other → A
fixed-other e = let z : ◌≡◌ {A = ℕ} 0 1 = cc in absurd (omega arith)

-- a sort whose shape is a number of so many bytes
sort-number : (x : Sort) (s : List ℕ) (w : ℕ) → shape_in x ≡ Number w → Sorted x s (whole w s) w (take w s) (number_value w s)
unfolding shape_in check_sort extent plain_sort sort_value
sort-number (sort.Number v) s w h =
    let e : v ≡ w = cc in
    subst (λ (n : ℕ). Sorted (sort.Number v) s (whole n s) n (take n s) (number_value n s)) e
    (record { check = refl; taken = refl; plain = refl; value = refl })
sort-number sort.Decimal s w h = number-decimal (sym h)
sort-number sort.Byte s w h =
    let e : 1 ≡ w = cc in
    subst (λ (n : ℕ). Sorted sort.Byte s (whole n s) n (take n s) (number_value n s)) e
    (record { check = refl; taken = refl; plain = refl; value = refl })
sort-number sort.YesNo s w h = number-other (sym h)
sort-number (sort.Fixed allowed v) s w h = number-fixed (sym h)
sort-number (sort.Variable allowed v) s w h = number-other (sym h)

-- a Decimal
sort-decimal : (x : Sort) (s : List ℕ) → shape_in x ≡ Decimal → Sorted x s (whole 8 s) 8 (take 8 s) (decimal_value s)
unfolding shape_in check_sort extent plain_sort sort_value
sort-decimal (sort.Number v) s h = number-decimal h
sort-decimal sort.Decimal s h = record { check = refl; taken = refl; plain = refl; value = refl }
sort-decimal sort.Byte s h = number-decimal h
sort-decimal sort.YesNo s h = decimal-other (sym h)
sort-decimal (sort.Fixed allowed v) s h = decimal-fixed (sym h)
sort-decimal (sort.Variable allowed v) s h = decimal-other (sym h)

-- a fixed text of so many bytes
sort-fixed : (x : Sort) (s : List ℕ) (allowed : Allowed) (w : ℕ) → shape_in x ≡ Fixed allowed w
    → Sorted x s (fixed allowed w s) w (fixed_bytes w (fixed_part allowed w s)) (text_value (fixed_text allowed w s))
unfolding shape_in check_sort extent plain_sort sort_value
sort-fixed (sort.Number v) s allowed w h = number-fixed h
sort-fixed sort.Decimal s allowed w h = decimal-fixed h
sort-fixed sort.Byte s allowed w h = number-fixed h
sort-fixed sort.YesNo s allowed w h = fixed-other (sym h)
sort-fixed (sort.Fixed a v) s allowed w h =
    let e : v ≡ w = cc in
    let f : a ≡ allowed = cc in
    subst (λ (n : ℕ). Sorted (sort.Fixed a v) s (fixed allowed n s) n (fixed_bytes n (fixed_part allowed n s)) (text_value (fixed_text allowed n s))) e
    (subst (λ (x : Allowed). Sorted (sort.Fixed a v) s (fixed x v s) v (fixed_bytes v (fixed_part x v s)) (text_value (fixed_text x v s))) f
    (record { check = refl; taken = refl; plain = refl; value = refl }))
sort-fixed (sort.Variable a v) s allowed w h = fixed-other (sym h)

-- a row that names a field says what the field's sort says
module _ (s : List ℕ) (c : Result Checked Reason) (n : ℕ) (x : List ℕ) (v : Result Value NoValue) where
  of-required : (f : Field) → Sorted (sort_of f) s c n x v → Told (Required f) s c n x v
  unfolding check_row extent_of plain_row row_value field_value
  of-required f g = record { check = g.check; taken = g.taken; plain = g.plain; value = g.value }

  of-optional : (f : Field) → Sorted (sort_of f) s c n x v → Told (Optional f) s c n x v
  unfolding check_row extent_of plain_row row_value field_value
  of-optional f g = record { check = g.check; taken = g.taken; plain = g.plain; value = g.value }

-- a row whose shape is a number of so many bytes
pub shape-number : (row : Row) (s : List ℕ) (w : ℕ) → shape_of row ≡ Number w → Told row s (whole w s) w (take w s) (number_value w s)
unfolding shape_of
shape-number (Required f) s w h = of-required s _ _ _ _ f (sort-number (sort_of f) s w h)
shape-number (Optional f) s w h = of-optional s _ _ _ _ f (sort-number (sort_of f) s w h)
shape-number UnknownPosition s w h = number-other (sym h)
shape-number UnknownType s w h = number-other (sym h)

-- a Decimal
pub shape-decimal : (row : Row) (s : List ℕ) → shape_of row ≡ Decimal → Told row s (whole 8 s) 8 (take 8 s) (decimal_value s)
unfolding shape_of
shape-decimal (Required f) s h = of-required s _ _ _ _ f (sort-decimal (sort_of f) s h)
shape-decimal (Optional f) s h = of-optional s _ _ _ _ f (sort-decimal (sort_of f) s h)
shape-decimal UnknownPosition s h = decimal-other (sym h)
shape-decimal UnknownType s h = decimal-other (sym h)

-- a fixed text of so many bytes
pub shape-fixed : (row : Row) (s : List ℕ) (allowed : Allowed) (w : ℕ) → shape_of row ≡ Fixed allowed w
    → Told row s (fixed allowed w s) w (fixed_bytes w (fixed_part allowed w s)) (text_value (fixed_text allowed w s))
unfolding shape_of
shape-fixed (Required f) s allowed w h = of-required s _ _ _ _ f (sort-fixed (sort_of f) s allowed w h)
shape-fixed (Optional f) s allowed w h = of-optional s _ _ _ _ f (sort-fixed (sort_of f) s allowed w h)
shape-fixed UnknownPosition s allowed w h = fixed-other (sym h)
shape-fixed UnknownType s allowed w h = fixed-other (sym h)

-- a shape that was worked out is that of the row
pub shape-at : (messagetype p : ℕ) (x : Shape) → shape_at messagetype p ≡ x → (x ≡ Other → ⊥) → shape_of (row_of messagetype p) ≡ x
unfolding shape_at
shape-at messagetype p x h n = go (eqb messagetype 10) refl h
  where
    go : (b : Bool) → eqb messagetype 10 ≡ b → cond b (shape_of (row_of 10 p)) Other ≡ x → shape_of (row_of messagetype p) ≡ x
    go true e g = ap (λ (k : ℕ). shape_of (row_of k p)) (eqb-true messagetype 10 e) ∙ g
    go false e g = absurd (n (sym g))

-- so that each of the three tells of the field at position p
module _ (messagetype p : ℕ) (s : List ℕ) where
  pub at-number : (w : ℕ) → shape_at messagetype p ≡ Number w → Told (row_of messagetype p) s (whole w s) w (take w s) (number_value w s)
  at-number w h = shape-number (row_of messagetype p) s w (shape-at messagetype p (Number w) h number-other)

  pub at-decimal : shape_at messagetype p ≡ Decimal → Told (row_of messagetype p) s (whole 8 s) 8 (take 8 s) (decimal_value s)
  at-decimal h = shape-decimal (row_of messagetype p) s (shape-at messagetype p Decimal h decimal-other)

  pub at-fixed : (allowed : Allowed) (w : ℕ) → shape_at messagetype p ≡ Fixed allowed w
      → Told (row_of messagetype p) s (fixed allowed w s) w (fixed_bytes w (fixed_part allowed w s)) (text_value (fixed_text allowed w s))
  at-fixed allowed w h = shape-fixed (row_of messagetype p) s allowed w (shape-at messagetype p (Fixed allowed w) h fixed-other)
