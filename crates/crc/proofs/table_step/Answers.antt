-- `crc::table_step` meets its contract: the high part of the register, and eight steps of its lowest byte.
use Rattle.std.proofs.Common.{ℕ, ◌/◌, sym, ap, ◌∙◌}
use Rattle.std.specs.Int.Bits.{bit_xor}
use Rattle.crc.specs.Register.{byte_step}
use Rattle.crc.proofs.Linear.{steps-eight}
use Rattle.crc.proofs.table_step.Goals as goal

pub returns : goal.returns
unfolding byte_step
returns c =
    let x : ℕ = bit_xor c.args.c c.args.b in
    ap (bit_xor (x / 256)) c.entry.ensures ∙ sym (steps-eight x)
