-- `sheet::line::digits_in` meets its contract: the invariant is that the digits passed are read.
use Rattle.sheet.proofs.LineLaws.{Reading}
use Rattle.sheet.proofs.line.digits_in.Given as goal

abbrev pub invariant-loop-i : goal.invariant-loop-i
invariant-loop-i l = Reading l.s l.value l.i
