-- `wire::decimal::read_decimal` meets its contract: the sign of the number in the first eight bytes.
use Rattle.std.proofs.Common.{ap, ◌∙◌, to_z-of_z, w64, sym}
use Rattle.wire.specs.Decimal.{signed, decimal}
use Rattle.wire.proofs.DecimalLaws.{signed-to_z}
use Rattle.wire.proofs.decimal.read_decimal.Goals as goal

pub returns : goal.returns
unfolding decimal
returns c =
    to_z-of_z {w = w64} (record { sfits = c.cast_signed.type_inv }) ∙ c.cast_signed.ensures
    ∙ sym (signed-to_z c.read_u64.result c.read_u64.type_inv) ∙ ap signed c.read_u64.ensures
