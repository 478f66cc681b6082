-- `capi::lines::live_line_step` meets its contract: business in its turn is taken, and what else arrives is ruled.
use mathlib.Core.Path.{sym, ap, ap₂, ◌∙◌}
use Prim.Native.Nat.{ℕ}
use Rattle.message.specs.Frame.{front_length}
use Rattle.session.specs.declared.state.Session.{Session}
use Rattle.line.specs.Turn.{due_stepped}
use Rattle.line.proofs.TurnLaws.{due-line}
use Rattle.capi.specs.Lines.{shown_line_stepped}
use Rattle.capi.proofs.TurnLaws.{line-ruled}
use Rattle.capi.proofs.lines.live_line_step.Goals as goal

pub returns-then-due-ne0 : goal.returns-then-due-ne0
returns-then-due-ne0 c =
    let k = due-line c.args.line c.args.t c.args.s.now c.read-reading.result c.take_due-due.result c.read-reading.ensures c.take_due-due.ensures c.if-due-ne0.true in
    c.line_in_turn.ensures ∙ ap₂ (λ (n x : ℕ). shown_line_stepped n (due_stepped c.take_due-due.result.line x)) k.size (c.expected.ensures ∙ ap (λ (x : Session). x.expected) c.session-session.ensures) ∙ ap (shown_line_stepped (front_length c.args.s.now)) (sym k.step)

pub returns : goal.returns
returns c =
    let e = line-ruled c.args.line c.args.t c.args.s.now c.read-reading.result c.step_by.result c.read-reading.ensures c.step_by.ensures in
    c.line_stepped_shown.ensures ∙ ap₂ shown_line_stepped c.front_length.ensures e
