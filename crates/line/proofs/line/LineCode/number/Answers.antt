-- `line::line::LineCode::number` meets its contract.
use Rattle.line.specs.Line.{line_number}
use Rattle.line.proofs.line.LineCode.number.Goals as goal

pub returns-in-Day : goal.returns-in-Day
unfolding line_number
returns-in-Day c = simp (c.code_number.ensures, c.in-Day.is)

pub returns-in-BadInterval : goal.returns-in-BadInterval
unfolding line_number
returns-in-BadInterval c = simp c.in-BadInterval.is
