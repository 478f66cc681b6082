-- `capi::read::ask_c` meets its contract.
use Rattle.capi.specs.Reading.{ask_c}
use Rattle.capi.proofs.read.ask_c.Goals as goal

pub returns : goal.returns
unfolding ask_c
returns c = simp (c.from.ensures, c.ask_number.ensures)
