-- `sheet::line::is_digit` meets its contract: by the tests.
use borrow.Author.Tests.{le-leb, lt-leb}
use Rattle.sheet.specs.Line.{is_digit}
use Rattle.sheet.proofs.line.is_digit.Goals as goal

pub returns-then-b-ge48 : goal.returns-then-b-ge48
unfolding is_digit
returns-then-b-ge48 c = simp (le-leb _ _ c.if-b-ge48.true)

pub returns-else-b-ge48 : goal.returns-else-b-ge48
unfolding is_digit
returns-else-b-ge48 c = simp (lt-leb _ _ c.if-b-ge48.false)
