-- `sheet::print::put_full` meets its contract.
use Rattle.wire.specs.Spelled.{spelled}
use Rattle.sheet.specs.Print.{printed_full}
use Rattle.sheet.proofs.print.put_full.Goals as goal

pub returns : goal.returns
unfolding spelled printed_full
returns c = (c.put_counted.ensures.value, c.put_counted.ensures.d_after)
