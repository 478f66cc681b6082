use Rattle.std.proofs.Common.{◌≡◌, ℕ, List, ◌++◌, length, take, drop, ap, ◌∙◌, arith, length-take-le}
use native.Mathlib.Nat.{sub-zero}
use Rattle.wire.proofs.NumberLaws.{lay-next, lay-whole}
use Rattle.wire.proofs.number.lay_number.Goals as goal

pub loop-byte-init : goal.loop-byte-init
loop-byte-init c = simp sub-zero

pub loop-byte-preserved : goal.loop-byte-preserved
loop-byte-preserved c =
    let l = c.loop-byte in
    let a = c.args in
    let e : length (take a.w a.d.now) ≡ a.w = length-take-le a.w a.d.now c.requires in
    lay-next l.byte-items a.w l.byte-index l.v (omega arith) (omega arith) ∙ l.invariant

pub returns : goal.returns
returns c =
    let l = c.loop-byte in
    let a = c.args in
    let e : length (take a.w a.d.now) ≡ a.w = length-take-le a.w a.d.now c.requires in
    ap (λ (x : List ℕ). x ++ drop a.w a.d.now) (lay-whole l.byte-items a.w l.byte-index a.n l.v (omega arith) (omega arith) l.invariant)
