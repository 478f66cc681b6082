-- `fields::check::check_at` meets its contract: a report by its shape, any other type by its row.
use mathlib.Core.Path.{sym, ap, ◌∙◌}
use Prim.Native.Nat.{ℕ}
use Rattle.tables.specs.Tables.{row_of}
use Rattle.fields.specs.Check.{check_row}
use Rattle.fields.proofs.check.check_at.Goals as goal

pub returns-then-messagetype-eq-EXECUTION_REPORT : goal.returns-then-messagetype-eq-EXECUTION_REPORT
returns-then-messagetype-eq-EXECUTION_REPORT c =
    let a = c.args in
    c.check_report.ensures ∙ ap (λ (k : ℕ). check_row (row_of k a.p) a.s.now) (sym c.if-messagetype-eq-EXECUTION_REPORT.true)
