-- `writer::send::fill_body` meets its contract: the letter and the number fill the body.
use mathlib.Core.Path.{refl, ap}
use Prim.Native.Nat.{ℕ, ◌+◌}
use Rattle.wire.specs.Number.{number_bytes}
use Rattle.wire.proofs.NumberLaws.{length-number_bytes}
use Rattle.writer.proofs.SendLaws.{both-fill}
use Rattle.writer.proofs.send.fill_body.Goals as goal

pub returns : goal.returns
returns c =
    let n = c.args.new in
    both-fill 5 1 (number_bytes 1 89) (number_bytes 4 n) _ _ _ refl (length-number_bytes 1 89) (ap (λ (k : ℕ). 1 + k) (length-number_bytes 4 n))
    c.put_u8.ensures.1 c.put_u32.ensures.1
