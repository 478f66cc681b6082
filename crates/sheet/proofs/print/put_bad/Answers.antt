-- `sheet::print::put_bad` meets its contract.
use Rattle.wire.specs.Spelled.{spelled}
use Rattle.sheet.specs.Print.{printed_bad}
use Rattle.sheet.proofs.print.put_bad.Goals as goal

pub returns : goal.returns
unfolding spelled printed_bad
returns c = (c.put_counted.ensures.value, c.put_counted.ensures.d_after)
