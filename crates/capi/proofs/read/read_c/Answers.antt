-- `capi::read::read_c` meets its contract: what the reader says is shown.
use Rattle.capi.specs.Reading.{read_c}
use Rattle.capi.proofs.read.read_c.Goals as goal

pub returns : goal.returns
unfolding read_c
returns c = simp (c.from.ensures, c.read.ensures)
