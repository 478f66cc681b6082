-- `fields::check::check_report` meets its contract: the shape stands for the check.
use mathlib.Core.Path.{sym, ◌∙◌}
use Rattle.tables.specs.Tables.{row_of}
use Rattle.fields.proofs.ShapeLaws.{shape-number, shape-decimal, shape-fixed}
use Rattle.fields.proofs.check.check_report.Goals as goal

pub returns-in-Number : goal.returns-in-Number
returns-in-Number c =
    let a = c.args in
    c.check_whole.ensures ∙ sym (shape-number (row_of 10 a.p) a.s.now _ (sym c.report_shape.ensures ∙ c.in-Number.is)).check

pub returns-in-Decimal : goal.returns-in-Decimal
returns-in-Decimal c =
    let a = c.args in
    c.check_whole-in-Decimal.ensures ∙ sym (shape-decimal (row_of 10 a.p) a.s.now (sym c.report_shape.ensures ∙ c.in-Decimal.is)).check

pub returns-in-Fixed : goal.returns-in-Fixed
returns-in-Fixed c =
    let a = c.args in
    c.check_fixed.ensures ∙ sym (shape-fixed (row_of 10 a.p) a.s.now _ _ (sym c.report_shape.ensures ∙ c.in-Fixed.is)).check
