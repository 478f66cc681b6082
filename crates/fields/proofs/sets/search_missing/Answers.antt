use mathlib.Core.Path.{sym, ◌∙◌}
use native.Mathlib.Omega.{arith}
use Rattle.fields.proofs.SetsLaws.{none-below-zero, none-below-next, missing-hit, missing-end}
use Rattle.fields.proofs.sets.search_missing.Goals as goal

pub loop-p-init : goal.loop-p-init
loop-p-init c = none-below-zero _

pub returns-then-is_missing : goal.returns-then-is_missing
returns-then-is_missing c =
    missing-hit _ _ c.loop-p.p (omega (arith, c.span_of-p-end.ensures)) (sym c.is_missing.ensures ∙ c.if-is_missing.true) c.loop-p.invariant

pub loop-p-preserved : goal.loop-p-preserved
loop-p-preserved c =
    none-below-next _ c.loop-p.p c.loop-p.invariant (sym c.is_missing.ensures ∙ c.if-is_missing.false)

pub returns : goal.returns
returns c =
    missing-end _ _ c.loop-p.p (omega (arith, c.span_of-p-end.ensures)) c.loop-p.invariant
