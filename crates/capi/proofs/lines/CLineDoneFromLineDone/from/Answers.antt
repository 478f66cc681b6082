-- `capi::lines::CLineDoneFromLineDone::from` meets its contract.
use Rattle.capi.specs.Lines.{shown_line_done}
use Rattle.capi.proofs.lines.CLineDoneFromLineDone.from.Goals as goal

pub returns : goal.returns
unfolding shown_line_done
returns c = simp (c.ended_besides.ensures, c.ended_code.ensures, c.ended_number.ensures, c.from.ensures, c.code_number.ensures)
