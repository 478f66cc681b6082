-- `capi::lines::line_next_tick_c` meets its contract: checked, and then asked.
use Rattle.capi.specs.Lines.{next_tick_c}
use Rattle.capi.proofs.LineLaws.{taken-line, not-taken-line}
use Rattle.capi.proofs.lines.line_next_tick_c.Goals as goal

pub returns-then-refusal-ne0 : goal.returns-then-refusal-ne0
unfolding next_tick_c
returns-then-refusal-ne0 c =
    let u = not-taken-line _ c.line_in-held.result c.number-refusal.result c.line_in-held.ensures c.number-refusal.ensures c.if-refusal-ne0.true in
    simp (u.number, u.fails)

pub returns : goal.returns
unfolding next_tick_c
returns c =
    let t = taken-line _ c.line_in-held.result c.number-refusal.result c.line_in-held.ensures c.number-refusal.ensures c.if-refusal-ne0.false in
    simp (c.from.ensures, c.next_tick.ensures, t.line, t.passes)
