-- `capi::lines::line_connect_c` meets its contract: checked, and then connected.
use Rattle.capi.specs.Lines.{connect_line_c}
use Rattle.capi.proofs.LineLaws.{taken-line, not-taken-line}
use Rattle.capi.proofs.lines.line_connect_c.Goals as goal

pub returns-then-refusal-ne0 : goal.returns-then-refusal-ne0
unfolding connect_line_c
returns-then-refusal-ne0 c =
    let u = not-taken-line _ c.line_in-held.result c.number-refusal.result c.line_in-held.ensures c.number-refusal.ensures c.if-refusal-ne0.true in
    simp (u.number, u.fails)

pub returns : goal.returns
unfolding connect_line_c
returns c =
    let t = taken-line _ c.line_in-held.result c.number-refusal.result c.line_in-held.ensures c.number-refusal.ensures c.if-refusal-ne0.false in
    simp (c.from.ensures, c.connect.ensures, t.line, t.passes)
