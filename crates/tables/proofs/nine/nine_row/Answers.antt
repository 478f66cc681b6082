-- `tables::nine::nine_row` meets its contract: the report's field, if the table names the position, with the table's own mark. Assumes nothing.
use mathlib.Core.Path.{◌≡◌, sym, ap, ◌∙◌}
use Rattle.std.specs.Prelude.{ℕ, Some}
use mathlib.Core.Bool.{Bool, true, cond, true≢false}
use Rattle.tables.specs.declared.dictionary.Field.{Field}
use Rattle.tables.specs.declared.table.Row.{Row}
use Rattle.tables.specs.declared.table.Row.TheVariants.{Required, Optional}
use Rattle.tables.specs.Line.{is_known, is_required, field_of}
use Rattle.tables.specs.Tables.{row_of}
use Rattle.tables.specs.Agree.{nine_row}
use Rattle.tables.proofs.NineLaws.{known-in-report, by-mark, names-field, known-field, nine-unknown, nine-none, nine-past}
use Rattle.tables.proofs.nine.nine_row.Goals.{then-table-lt1-via-then-table-lt1, then-table-lt1-via-else-table-lt1+then-table-gt9}
use Rattle.tables.proofs.nine.nine_row.Goals as goal

pub returns-then-table-lt1 : goal.returns-then-table-lt1
returns-then-table-lt1 c =
    let a = c.args in
    elim c.then-table-lt1.branch [
      | then-table-lt1-via-then-table-lt1 w ↦ nine-none a.table a.position w.if-table-lt1.true
      | then-table-lt1-via-else-table-lt1+then-table-gt9 w ↦ nine-past a.table a.position w.if-table-gt9.true
    ]

pub returns-then-not-is_named : goal.returns-then-not-is_named
returns-then-not-is_named c =
    let a = c.args in
    let e = sym c.is_named.ensures ∙ c.if-not-is_named.true in
    nine-unknown a.table a.position c.if-table-lt1.false c.if-table-gt9.false e

-- the field that the report's row names, with the mark that the table gives
marked : (k p : ℕ) (f : Field) (r : Row) (b n : Bool) → r ≡ row_of 10 p → Some f ≡ field_of r → n ≡ is_known (nine_row k p) → n ≡ true
    → b ≡ is_required (nine_row k p) → cond b (Required f) (Optional f) ≡ nine_row k p
marked k p f r b n at e named known mark =
    ap (λ (x : Bool). cond x (Required f) (Optional f)) mark ∙ by-mark k p f (sym named ∙ known) (names-field (row_of 10 p) f (e ∙ ap field_of at))

pub returns-in-Some : goal.returns-in-Some
returns-in-Some c =
    let a = c.args in
    let f = c.in-Some.field in
    ap (λ (x : Bool). cond x (Required f) (Optional f)) (sym c.if-is_marked.true)
    ∙ marked a.table a.position f c.row_of.result _ _ c.row_of.ensures (sym c.in-Some.is ∙ c.field.ensures) c.is_named.ensures c.if-not-is_named.false c.is_marked.ensures

pub returns-in-Some-2 : goal.returns-in-Some-2
returns-in-Some-2 c =
    let a = c.args in
    let f = c.in-Some.field in
    ap (λ (x : Bool). cond x (Required f) (Optional f)) (sym c.if-is_marked.false)
    ∙ marked a.table a.position f c.row_of.result _ _ c.row_of.ensures (sym c.in-Some.is ∙ c.field.ensures) c.is_named.ensures c.if-not-is_named.false c.is_marked.ensures

pub returns-in-None : goal.returns-in-None
returns-in-None c =
    let a = c.args in
    let known = known-in-report a.table a.position (sym c.is_named.ensures ∙ c.if-not-is_named.false) in
    let none = sym c.in-None.is ∙ c.field.ensures ∙ ap field_of c.row_of.ensures in
    absurd (true≢false (sym known ∙ known-field (row_of 10 a.position) none))
