-- `daysheet::to_front` meets its contract: the bytes that are moved stand at the front.
use native.Mathlib.Nat.{zero-add}
use Rattle.std.proofs.Common.{◌-◌, take, drop, refl, ap, ◌∙◌, arith, length-drop}
use Rattle.std.proofs.Math.Seq.{take-paste}
use Rattle.daysheet.proofs.to_front.Goals as goal

pub returns : goal.returns
returns c =
    let b = c.args.buf.now in
    let n = c.args.end - c.args.from in
    let front = simp zero-add at (take-paste b 0 (drop c.args.from b) n (omega arith) (omega (arith, length-drop c.args.from b))) in
    record { value = λ h k. refl; buf_after = λ h k. ap (take n) (simp zero-add at c.copy_within.ensures.after) ∙ front }
