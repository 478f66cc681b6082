-- `fields::plain::copy_row` meets its contract where the row names no field.
use mathlib.Core.Path.{sym, ap, ◌∙◌}
use Rattle.tables.specs.Line.{field_of}
use Rattle.fields.proofs.CopyLaws.{laid_unnamed}
use Rattle.fields.proofs.plain.copy_row.Goals as goal

pub returns-in-None : goal.returns-in-None
returns-in-None c =
    let a = c.args in
    laid_unnamed _ a.s.now a.d.now (ap field_of (sym c.row_of.ensures) ∙ sym c.field.ensures ∙ c.in-None.is)
