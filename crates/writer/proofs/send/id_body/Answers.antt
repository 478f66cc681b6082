-- `writer::send::id_body` meets its contract: the two bytes of the number fill the body.
use mathlib.Core.Path.{◌∙◌}
use Rattle.wire.specs.Number.{number_bytes}
use Rattle.wire.proofs.NumberLaws.{length-number_bytes}
use Rattle.writer.proofs.SendLaws.{fills}
use Rattle.writer.proofs.send.id_body.Goals as goal

pub returns : goal.returns
returns c =
    let n = c.args.id in
    c.put_u16.ensures.1 ∙ fills (number_bytes 2 n) _ (length-number_bytes 2 n)
