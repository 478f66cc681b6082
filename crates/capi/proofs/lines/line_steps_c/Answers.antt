-- `capi::lines::line_steps_c` meets its contract: the check, and then the line's own call.
use Rattle.capi.specs.Lines.{steps_line_c, rows_line_c, sends_line_c}
use Rattle.capi.proofs.LineLaws.{taken-line, not-taken-line}
use Rattle.capi.proofs.lines.line_steps_c.Goals as goal

pub returns-then-refusal-ne0 : goal.returns-then-refusal-ne0
unfolding steps_line_c rows_line_c sends_line_c
returns-then-refusal-ne0 c =
    let u = not-taken-line _ c.line_in-held.result c.number-refusal.result c.line_in-held.ensures c.number-refusal.ensures c.if-refusal-ne0.true in
    (simp (u.number, u.fails), simp u.fails, simp u.fails)

pub returns : goal.returns
unfolding steps_line_c rows_line_c sends_line_c
returns c =
    let t = taken-line _ c.line_in-held.result c.number-refusal.result c.line_in-held.ensures c.number-refusal.ensures c.if-refusal-ne0.false in
    let e = c.steps.ensures in
    (simp (c.from.ensures, e.0, t.line, t.passes), simp (e.1, t.line, t.passes), simp (e.2, t.line, t.passes))
