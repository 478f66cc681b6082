-- `capi::sessions::live_step` meets its contract: business in its turn is taken, and what else arrives is ruled.
use mathlib.Core.Path.{sym, ap₂, ◌∙◌}
use Rattle.capi.specs.Sessions.{shown_stepped}
use Rattle.capi.proofs.TurnLaws.{live-took, live_more, live-ruled}
use Rattle.capi.proofs.sessions.live_step.Goals as goal

pub in_turn-requires : goal.in_turn-requires
in_turn-requires c =
    (c.requires.0, live_more c.args.c c.args.s.now c.read-reading.result c.read-reading.ensures c.args.session c.take_due-due.result c.requires.1 c.take_due-due.ensures c.if-due-ne0.true)

pub returns-then-due-ne0 : goal.returns-then-due-ne0
returns-then-due-ne0 c =
    let k = live-took c.args.c c.args.s.now c.read-reading.result c.read-reading.ensures c.args.session c.take_due-due.result c.requires.1 c.take_due-due.ensures c.if-due-ne0.true in
    c.in_turn.ensures ∙ ap₂ shown_stepped k.size (sym k.step)

pub returns : goal.returns
returns c =
    let e = live-ruled c.args.c c.args.s.now c.read-reading.result c.read-reading.ensures c.args.session c.step_by.result c.requires.1 c.step_by.ensures in
    c.stepped_shown.ensures ∙ ap₂ shown_stepped c.front_length.ensures e
