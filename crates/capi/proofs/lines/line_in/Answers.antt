-- `capi::lines::line_in` meets its contract.
use Rattle.capi.proofs.lines.line_in.Goals as goal

pub returns : goal.returns
returns c = simp (c.held.ensures, c.session_in.ensures)
