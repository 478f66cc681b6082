-- `wire::text::variable_part` meets its contract: the characters of a good text stand inside the bytes, behind the length.
use Rattle.std.proofs.Common.{◌≡◌, ℕ, ◌+◌, ◌-◌, take, drop, sym, ap, ◌∙◌, arith, Option}
use Rattle.wire.specs.declared.text.Text.{Text}
use Rattle.wire.specs.Text.{characters_of, variable_part}
use Rattle.wire.proofs.TextLaws.{variable-within}
use Rattle.wire.proofs.text.variable_part.Goals as goal

pub overflow_add-result : goal.overflow_add-result
overflow_add-result c =
    let a = c.args in
    let i = variable-within _ a.size a.s.now c.in-Some.text.characters _ (sym c.variable_text.ensures ∙ c.in-Some.is) in
    omega arith

pub slice_bounds-result-end : goal.slice_bounds-result-end
slice_bounds-result-end c =
    let a = c.args in
    let i = variable-within _ a.size a.s.now c.in-Some.text.characters _ (sym c.variable_text.ensures ∙ c.in-Some.is) in
    omega arith

pub returns-in-Some : goal.returns-in-Some
unfolding variable_part characters_of
returns-in-Some c =
    let s = c.args.s.now in
    let n = c.in-Some.text.characters in
    let e : 2 + n - 2 ≡ n = omega arith in
    ap (λ (j : ℕ). take j (drop 2 s)) e
    ∙ ap (λ (x : Option Text). characters_of x (drop 2 s)) (sym (sym c.variable_text.ensures ∙ c.in-Some.is))

pub returns-in-None : goal.returns-in-None
unfolding variable_part characters_of
returns-in-None c =
    let s = c.args.s.now in
    ap (λ (x : Option Text). characters_of x (drop 2 s)) (sym (sym c.variable_text.ensures ∙ c.in-None.is))
