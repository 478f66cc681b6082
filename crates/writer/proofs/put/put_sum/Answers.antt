-- `writer::put::put_sum` meets its contract: the sum of what stands before it is laid behind it.
use mathlib.Core.Path.{◌≡◌, ap, ◌∙◌}
use Prim.Native.Nat.{ℕ, ◌-◌}
use native.Mathlib.Omega.{arith}
use lib.ListN.{take}
use Rattle.crc.specs.Crc.{crc32c}
use Rattle.writer.proofs.WriteLaws.{sum_laid}
use Rattle.writer.proofs.put.put_sum.Goals as goal

pub returns : goal.returns
returns c =
    let all : c.args.n - 4 - 0 ≡ c.args.n - 4 = omega arith in
    sum_laid c.args.d.now _ c.args.n _ (omega arith) c.requires.1
    (c.crc32c-sum.ensures ∙ ap (λ (k : ℕ). crc32c (take k c.args.d.now)) all) c.put_u32.ensures.1
