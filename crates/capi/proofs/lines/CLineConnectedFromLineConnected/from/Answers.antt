-- `capi::lines::CLineConnectedFromLineConnected::from` meets its contract.
use Rattle.capi.specs.Lines.{shown_line_connected}
use Rattle.capi.proofs.lines.CLineConnectedFromLineConnected.from.Goals as goal

pub returns : goal.returns
unfolding shown_line_connected
returns c = simp (c.code_besides.ensures, c.from.ensures, c.code_number.ensures)
