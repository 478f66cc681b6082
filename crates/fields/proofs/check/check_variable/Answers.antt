-- `fields::check::check_variable` is safe: a good text is shorter than the bytes.
use mathlib.Core.Path.{sym, ◌∙◌}
use native.Mathlib.Omega.{arith}
use Rattle.wire.proofs.TextLaws.{variable-within}
use Rattle.fields.proofs.check.check_variable.Goals as goal

pub overflow_add-result : goal.overflow_add-result
overflow_add-result c =
    let a = c.args in
    let i = variable-within _ a.size a.s.now c.in-Some.text.characters _ (sym c.variable_text.ensures ∙ c.in-Some.is) in
    omega arith
