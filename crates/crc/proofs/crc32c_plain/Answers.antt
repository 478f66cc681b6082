use Rattle.std.proofs.Common.{◌∙◌, arith}
use Rattle.crc.proofs.Linear.{reached-byte}
use Rattle.crc.proofs.Division.{reached-sum}
use Rattle.crc.proofs.crc32c_plain.Goals as goal

pub loop-b-preserved : goal.loop-b-preserved
loop-b-preserved c =
    let l = c.loop-b in
    reached-byte _ _ _ l.invariant c.byte_step-c.result (omega arith) c.byte_step-c.ensures

pub returns : goal.returns
returns c = c.complement.ensures ∙ reached-sum _ _ _ (λ k. (c.type_inv.s k).fits) c.loop-b.invariant (omega arith)
