use Rattle.std.proofs.Common.{◌≡◌, ℕ, suc, ◌+◌, ◌-◌, refl, ap, ◌∙◌, arith}
use Rattle.rows.specs.Steps.{steps}
use Rattle.crc.specs.Register.{byte_step}
use Rattle.crc.proofs.byte_step.Goals as goal

pub loop-init : goal.loop-init
unfolding byte_step
loop-init c = refl

pub loop-preserved : goal.loop-preserved
unfolding steps
loop-preserved c =
    let l = c.loop in
    let left = 8 - (l.counter + 1) in
    let e : suc left ≡ 8 - l.counter = omega arith in
    ap (steps left) c.bit_step-x.ensures ∙ ap (λ (n : ℕ). steps n l.x) e ∙ l.invariant

pub returns : goal.returns
unfolding steps
returns c =
    let e : 8 - c.loop.counter ≡ 0 = omega arith in
    rw e at c.loop.invariant
