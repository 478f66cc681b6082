-- `fields::plain::copy_number` meets its contract: one byte is laid by itself.
use Rattle.fields.proofs.CopyLaws.{laid_one}
use Rattle.fields.proofs.plain.copy_number.Goals as goal

pub returns-then-d-ge1 : goal.returns-then-d-ge1
returns-then-d-ge1 c =
    let a = c.args in
    laid_one a.s.now a.d.now a.width c.if-width-eq1.true (c.if-s-ge1.true) (c.if-d-ge1.true)
