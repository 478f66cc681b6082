-- `wire::decimal::put_decimal` meets its contract: it puts the eight bytes of the unsigned number.
use Rattle.std.proofs.Common.{ap, ◌∙◌, to_z-of_z, of_z, w64, sym}
use Rattle.wire.specs.Decimal.{decimal_bytes}
use Rattle.wire.proofs.DecimalLaws.{unsigned-of_z}
use Rattle.wire.proofs.decimal.put_decimal.Goals as goal

pub returns : goal.returns
unfolding decimal_bytes
returns c =
    rw (c.cast_unsigned.ensures ∙ ap (of_z w64) (to_z-of_z c.ranges.z) ∙ sym (unsigned-of_z c.args.z)) at c.put_u64.ensures
