-- `wire::number::read_eight` meets its contract: the library's number of eight bytes.
use Rattle.std.proofs.Common.{ap, ◌∙◌, length, length-take-le}
use Rattle.wire.specs.Number.{number}
use Rattle.wire.proofs.EightLaws.{number-eight}
use Rattle.wire.proofs.number.read_eight.Goals as goal

pub returns-in-Some : goal.returns-in-Some
returns-in-Some c =
    let f = c.in-Some.ensures.cases in
    c.from_le_bytes.ensures ∙ number-eight c.in-Some.bytes.now (ap length f.same ∙ length-take-le 8 c.args.s.now f.enough) ∙ ap number f.same
