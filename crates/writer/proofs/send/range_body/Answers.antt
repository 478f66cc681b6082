-- `writer::send::range_body` meets its contract: the two numbers fill the body.
use mathlib.Core.Path.{refl, ap}
use Prim.Native.Nat.{ℕ, ◌+◌}
use Rattle.wire.specs.Number.{number_bytes}
use Rattle.wire.proofs.NumberLaws.{length-number_bytes}
use Rattle.writer.proofs.SendLaws.{both-fill}
use Rattle.writer.proofs.send.range_body.Goals as goal

pub returns : goal.returns
returns c =
    let a = c.args in
    both-fill 8 4 (number_bytes 4 a.start) (number_bytes 4 a.end) _ _ _ refl (length-number_bytes 4 a.start) (ap (λ (k : ℕ). 4 + k) (length-number_bytes 4 a.end))
    c.put_u32.ensures.1 c.put_u32-2.ensures.1
