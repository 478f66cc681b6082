-- `line::line::is_sending` meets its contract.
use Rattle.line.specs.Line.{is_sending}
use Rattle.line.proofs.line.is_sending.Goals as goal

pub returns : goal.returns
unfolding is_sending
returns c = simp c.code_number.ensures
