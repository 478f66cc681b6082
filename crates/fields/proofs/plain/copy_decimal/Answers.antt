-- `fields::plain::copy_decimal` meets its contract: eight bytes come back from their number.
use mathlib.Core.Path.{ap, ◌∙◌}
use Rattle.wire.specs.Number.{number_bytes}
use Rattle.fields.proofs.CopyLaws.{laid_as, eight-again}
use Rattle.fields.proofs.plain.copy_decimal.Goals as goal

pub returns : goal.returns
returns c =
    let s = c.args.s.now in
    laid_as _ _ _ _ _
    (ap (number_bytes 8) c.read_eight.ensures ∙ eight-again s c.if-s-lt8.false (λ i. (c.type_inv.s i).fits))
    c.put_u64.ensures
