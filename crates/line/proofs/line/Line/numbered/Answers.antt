-- `line::line::Line::numbered` meets its contract: by the number that the session gives.
use borrow.Author.Tests.{eq-eqb, ne_eqb}
use Rattle.line.specs.Tick.{numbered}
use Rattle.line.proofs.line.Line.numbered.Goals as goal

pub returns-then-code_number-ne0 : goal.returns-then-code_number-ne0
unfolding numbered
returns-then-code_number-ne0 c = simp (c.moved.ensures, ← c.own_number-owned.ensures, ← c.code_number.ensures, ne_eqb _ 0 c.if-code_number-ne0.true)

pub returns : goal.returns
unfolding numbered
returns c = simp (c.own_act.ensures, c.with_test.ensures, c.moved-line.ensures, ← c.own_number-owned.ensures, ← c.code_number.ensures, eq-eqb _ 0 c.if-code_number-ne0.false)
