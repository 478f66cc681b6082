use Rattle.std.proofs.Common.{◌≡◌, ◌-◌, take, sym, arith, length-take}
use Rattle.wire.specs.Number.{Bytes, number}
use Rattle.wire.proofs.NumberLaws.{number-take, read_none, read_down, read-room}
use Rattle.wire.proofs.number.low.Goals as goal

pub loop-k-init : goal.loop-k-init
loop-k-init c =
    let a = c.args in
    (omega arith, omega arith, sym (read_none a.s.now a.w c.min-k.result (simp length-take (omega arith))))

pub overflow_mul-v : goal.overflow_mul-v
overflow_mul-v c =
    let a = c.args in
    let b : Bytes a.s.now = λ i. (c.type_inv.s i).fits in
    omega (arith, read-room a.s.now a.w c.loop-k.k b (omega arith) (omega arith))

pub overflow_add-v : goal.overflow_add-v
overflow_add-v c =
    let a = c.args in
    let b : Bytes a.s.now = λ i. (c.type_inv.s i).fits in
    omega (arith, read-room a.s.now a.w c.loop-k.k b (omega arith) (omega arith), b (c.loop-k.k - 1))

pub loop-k-preserved : goal.loop-k-preserved
loop-k-preserved c =
    let a = c.args in
    (omega arith, omega arith, omega (arith, read_down a.s.now a.w c.loop-k.k (omega arith) (omega arith) (omega arith)))

pub returns : goal.returns
returns c =
    let a = c.args in
    let e : c.loop-k.k ≡ 0 = omega arith in
    let r : c.loop-k.v ≡ number (take a.w a.s.now) = rw e at c.loop-k.invariant.2 in
    (r, rw r (number-take a.s.now a.w (λ i. (c.type_inv.s i).fits)))
