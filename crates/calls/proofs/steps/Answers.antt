-- `calls::steps` meets its contract: the state, then the room, then the turns.
use Prim.Native.Nat.{◌/◌}
use mathlib.Core.Path.{◌≡◌, sym, ap, ◌∙◌}
use Rattle.session.specs.declared.state.State.TheVariants.{Down}
use Rattle.calls.specs.declared.Done.{Done}
use Rattle.calls.specs.declared.Ended.TheVariants as ended
use Rattle.calls.specs.declared.SoFar.{SoFar}
use Rattle.calls.specs.Steps.{reports}
use Rattle.calls.proofs.CallLaws.{down, full, down-call, full-call, run_call}
use Rattle.calls.proofs.steps.Goals as goal

pub returns-in-Down : goal.returns-in-Down
returns-in-Down c =
    let r = c.report.ensures ∙ ap (λ (z : SoFar). reports z.session down z.used (z.rows / 5) (z.sends / 4) z.heard (ended.Down down)) c.start-start.ensures in
    let w = down-call c.args.session c.args.s.now c.args.rows.now c.args.sends.now c.report.result (sym c.state.ensures ∙ c.in-Down.is) r in
    (w.report, w.rows, w.sends)

pub returns-then-not-has_room : goal.returns-then-not-has_room
returns-then-not-has_room c =
    let up : c.args.session.state ≡ Down → ⊥ = λ e. c.in_default.not-Down (c.state.ensures ∙ e) in
    let r = c.report-full.ensures ∙ ap (λ (z : SoFar). reports z.session full z.used (z.rows / 5) (z.sends / 4) z.heard ended.NoSlot) c.start-start.ensures in
    let q = ap (λ (x : Done). reports x.session x.code x.used 1 2 x.heard x.ended) r in
    let w = full-call c.args.session c.args.s.now c.args.rows.now c.args.sends.now _ up (sym c.has_room.ensures ∙ c.if-not-has_room.true) q in
    (w.report, w.rows, w.sends)

pub run-requires : goal.run-requires
run-requires c = λ e. c.in_default.not-Down (c.state.ensures ∙ e)

pub returns : goal.returns
returns c =
    let up : c.args.session.state ≡ Down → ⊥ = λ e. c.in_default.not-Down (c.state.ensures ∙ e) in
    let e = c.run.ensures in
    let w = run_call c.args.session c.args.s.now c.args.rows.now c.args.sends.now c.run.result _ _ up (sym c.has_room.ensures ∙ c.if-not-has_room.false) e.0 e.1 e.2 in
    (w.report, w.rows, w.sends)
