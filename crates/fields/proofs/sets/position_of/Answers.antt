use mathlib.Core.Path.{sym, ap, ◌∙◌}
use native.Mathlib.Omega.{arith}
use Rattle.fields.specs.Sets.{is_row_of, stands_at}
use Rattle.fields.proofs.SetsLaws.{none-below-zero, none-below-next, position-hit, position-end}
use Rattle.fields.proofs.sets.position_of.Goals as goal

pub loop-p-init : goal.loop-p-init
loop-p-init c = none-below-zero _

pub returns-then-is_row_of : goal.returns-then-is_row_of
unfolding stands_at
returns-then-is_row_of c =
    position-hit _ _ c.loop-p.p (omega (arith, c.span_of-span.ensures))
    (sym (c.is_row_of.ensures ∙ ap (is_row_of _) c.row_of.ensures) ∙ c.if-is_row_of.true) c.loop-p.invariant

pub loop-p-preserved : goal.loop-p-preserved
unfolding stands_at
loop-p-preserved c =
    none-below-next _ c.loop-p.p c.loop-p.invariant
    (sym (c.is_row_of.ensures ∙ ap (is_row_of _) c.row_of.ensures) ∙ c.if-is_row_of.false)

pub returns : goal.returns
returns c =
    position-end _ _ c.loop-p.p (omega (arith, c.span_of-span.ensures)) c.loop-p.invariant
