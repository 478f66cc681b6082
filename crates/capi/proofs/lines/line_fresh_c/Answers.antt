-- `capi::lines::line_fresh_c` meets its contract.
use Rattle.capi.specs.Lines.{fresh_line_c}
use Rattle.capi.proofs.lines.line_fresh_c.Goals as goal

pub returns : goal.returns
unfolding fresh_line_c
returns c = simp (c.from.ensures, c.fresh.ensures)
