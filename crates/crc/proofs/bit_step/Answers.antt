-- `crc::bit_step` meets its contract: the lowest bit is 1 or 0.
use Rattle.std.proofs.Common.{◌≡◌, ℕ, ◌*◌, ◌/◌, ◌%◌, sym, ap, ◌∙◌, arith}
use Rattle.std.specs.Int.Bits.{bit_xor, xor_zero_r}
use Rattle.rows.specs.Steps.{bit_step}
use Rattle.crc.proofs.bit_step.Goals as goal

pub returns-then-c-eq1 : goal.returns-then-c-eq1
unfolding bit_step
returns-then-c-eq1 c =
    let x = c.args.c in
    let e : x % 2 ≡ 1 = c.if-c-eq1.true in
    ap (λ (y : ℕ). bit_xor (x / 2) (y * 0x82F63B78)) (sym e)

pub returns-else-c-eq1 : goal.returns-else-c-eq1
unfolding bit_step
returns-else-c-eq1 c =
    let x = c.args.c in
    let e : x % 2 ≡ 0 = omega (arith, c.if-c-eq1.false) in
    sym (xor_zero_r (x / 2)) ∙ ap (λ (y : ℕ). bit_xor (x / 2) (y * 0x82F63B78)) (sym e)
