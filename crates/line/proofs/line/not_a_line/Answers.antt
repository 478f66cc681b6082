-- `line::line::not_a_line` meets its contract.
use Rattle.line.specs.Line.{not_a_line}
use Rattle.line.proofs.line.not_a_line.Goals as goal

pub returns : goal.returns
unfolding not_a_line
returns c = simp (c.quiet.ensures, c.fresh-none.ensures)
