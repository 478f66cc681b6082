-- `line::line::Line::take_due` meets its contract: a length that is not 0 is that of business in its turn.
use borrow.Author.Tests.{eq-eqb, ne_eqb}
use Rattle.line.specs.Turn.{take_due_line}
use Rattle.line.proofs.line.Line.take_due.Goals as goal

pub returns-then-length-eq0 : goal.returns-then-length-eq0
unfolding take_due_line
returns-then-length-eq0 c = simp (← c.take_due-due.ensures, eq-eqb _ 0 c.if-length-eq0.true)

pub returns : goal.returns
unfolding take_due_line
returns c =
    simp (c.moved.ensures, ← c.take_due-due.ensures, ne_eqb _ 0 c.if-length-eq0.false)
