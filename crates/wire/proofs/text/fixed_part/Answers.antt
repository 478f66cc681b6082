-- `wire::text::fixed_part` meets its contract: the characters of a good text stand inside the bytes.
use Rattle.std.proofs.Common.{sym, ap, ◌∙◌, arith, length-take-le, Option}
use Rattle.wire.specs.declared.text.Text.{Text}
use Rattle.wire.specs.Text.{characters_of, fixed_part}
use Rattle.wire.proofs.TextLaws.{fixed-within}
use Rattle.wire.proofs.text.fixed_part.Goals as goal

pub slice_bounds-result-end : goal.slice_bounds-result-end
slice_bounds-result-end c =
    let a = c.args in
    let n = c.in-Some.text.characters in
    let i = fixed-within _ a.width a.s.now n _ (sym c.fixed_text.ensures ∙ c.in-Some.is) in
    sym (length-take-le n a.s.now (omega arith))

pub returns-in-Some : goal.returns-in-Some
unfolding fixed_part characters_of
returns-in-Some c =
    let s = c.args.s.now in
    ap (λ (x : Option Text). characters_of x s) (sym (sym c.fixed_text.ensures ∙ c.in-Some.is))

pub returns-in-None : goal.returns-in-None
unfolding fixed_part characters_of
returns-in-None c =
    let s = c.args.s.now in
    ap (λ (x : Option Text). characters_of x s) (sym (sym c.fixed_text.ensures ∙ c.in-None.is))
