-- `capi::read::no_part` meets its contract.
use Rattle.capi.proofs.read.no_part.Goals as goal

pub returns : goal.returns
returns c = simp (c.number.ensures, c.besides.ensures)
