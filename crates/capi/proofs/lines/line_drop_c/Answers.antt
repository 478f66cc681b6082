-- `capi::lines::line_drop_c` meets its contract: checked, and then dropped.
use Rattle.capi.specs.Lines.{drop_line_c}
use Rattle.capi.proofs.LineLaws.{taken-line, not-taken-line}
use Rattle.capi.proofs.lines.line_drop_c.Goals as goal

pub returns-then-refusal-ne0 : goal.returns-then-refusal-ne0
unfolding drop_line_c
returns-then-refusal-ne0 c =
    let u = not-taken-line _ c.line_in-held.result c.number-refusal.result c.line_in-held.ensures c.number-refusal.ensures c.if-refusal-ne0.true in
    simp (c.line_made.ensures, u.number, u.fails)

pub returns : goal.returns
unfolding drop_line_c
returns c =
    let t = taken-line _ c.line_in-held.result c.number-refusal.result c.line_in-held.ensures c.number-refusal.ensures c.if-refusal-ne0.false in
    simp (c.line_made-2.ensures, c.from.ensures, c.drop.ensures, t.line, t.passes)
