-- `capi::lines::line_step_c` meets its contract: checked, and then stepped.
use Rattle.capi.specs.Lines.{step_line_c}
use Rattle.capi.proofs.LineLaws.{taken-line, not-taken-line}
use Rattle.capi.proofs.TurnLaws.{live-used}
use Rattle.capi.proofs.lines.line_step_c.Goals as goal

pub returns-then-refusal-ne0 : goal.returns-then-refusal-ne0
unfolding step_line_c
returns-then-refusal-ne0 c =
    let u = not-taken-line _ c.line_in-held.result c.number-refusal.result c.line_in-held.ensures c.number-refusal.ensures c.if-refusal-ne0.true in
    simp (c.line_not_stepped.ensures u.number, u.fails)

pub returns-then-session-eq-LIVE : goal.returns-then-session-eq-LIVE
unfolding step_line_c
returns-then-session-eq-LIVE c =
    let a = c.args in
    let t = taken-line a.c c.line_in-held.result c.number-refusal.result c.line_in-held.ensures c.number-refusal.ensures c.if-refusal-ne0.false in
    simp (c.live_line_step.ensures, t.line, t.passes, live-used a.c.session c.if-session-eq-LIVE.true a.s.now)

pub returns : goal.returns
unfolding step_line_c
returns c =
    let t = taken-line _ c.line_in-held.result c.number-refusal.result c.line_in-held.ensures c.number-refusal.ensures c.if-refusal-ne0.false in
    simp (c.line_stepped_shown.ensures, c.used_by.ensures, c.step.ensures, t.line, t.passes)
