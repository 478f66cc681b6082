-- `capi::lines::CLineMadeFromLineMade::from` meets its contract.
use Rattle.capi.specs.Lines.{shown_line_made}
use Rattle.capi.proofs.lines.CLineMadeFromLineMade.from.Goals as goal

pub returns : goal.returns
unfolding shown_line_made
returns c = simp (c.line_made.ensures, c.from.ensures, c.number.ensures)
