-- `sheet::line::with_digit` meets its contract: by the test.
use mathlib.Core.Path.{sym}
use Rattle.sheet.specs.Capped.{with_digit}
use Rattle.sheet.proofs.LineLaws.{capped-in, capped-past}
use Rattle.sheet.proofs.line.with_digit.Goals as goal

pub returns-then-x-le-MOST : goal.returns-then-x-le-MOST
unfolding with_digit
returns-then-x-le-MOST c = sym (capped-in _ c.if-x-le-MOST.true)

pub returns-else-x-le-MOST : goal.returns-else-x-le-MOST
unfolding with_digit
returns-else-x-le-MOST c = sym (capped-past _ c.if-x-le-MOST.false)
