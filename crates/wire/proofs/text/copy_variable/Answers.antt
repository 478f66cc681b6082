-- `wire::text::copy_variable` meets its contract: the characters of a variable text are fewer than two bytes count.
use Rattle.std.proofs.Common.{◌≡◌, ℕ, ◌+◌, ◌^◌, ◌<◌, List, length, ap, subst, arith}
use Rattle.wire.specs.Laying.{laid, laid_answer}
use Rattle.wire.specs.Text.{variable_part, variable_bytes}
use Rattle.wire.proofs.TextLaws.{variable-fits}
use Rattle.wire.proofs.text.copy_variable.Goals as goal

pub lay_variable-requires : goal.lay_variable-requires
lay_variable-requires c =
    let a = c.args in
    let p = variable_part a.allowed a.size a.s.now in
    let f : length p + 1 < 256 ^ 2 = variable-fits _ a.size a.s.now (λ k. (c.type_inv.s k).fits) in
    let m : length c.variable_part.result.now ≡ length p = ap length c.variable_part.ensures in
    omega arith

pub returns : goal.returns
returns c =
    let d = c.args.d.now in
    subst (λ (t : List ℕ). (c.lay_variable.result ≡ laid_answer (variable_bytes t) d) × (c.lay_variable.new.d ≡ laid (variable_bytes t) d))
    c.variable_part.ensures c.lay_variable.ensures
