-- `capi::lines::line_saved_c` meets its contract.
use Rattle.capi.specs.Lines.{saved_line_c}
use Rattle.capi.proofs.lines.line_saved_c.Goals as goal

pub returns : goal.returns
unfolding saved_line_c
returns c = simp (c.from.ensures, c.saved.ensures)
