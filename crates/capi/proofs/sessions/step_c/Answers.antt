-- `capi::sessions::step_c` meets its contract: checked, and then stepped.
use Rattle.capi.specs.Sessions.{step_c}
use Rattle.capi.proofs.SessionLaws.{taken, not_taken}
use Rattle.capi.proofs.TurnLaws.{live-used}
use Rattle.capi.proofs.sessions.step_c.Goals as goal

pub returns-then-refusal-ne0 : goal.returns-then-refusal-ne0
unfolding step_c
returns-then-refusal-ne0 c =
    let a = c.args in
    let u = not_taken a.c c.session_in-held.result c.code_number-refusal.result c.session_in-held.ensures c.code_number-refusal.ensures c.if-refusal-ne0.true in
    simp (c.not_stepped.ensures u.number, u.fails)

pub live_step-requires : goal.live_step-requires
live_step-requires c =
    let a = c.args in
    let t = taken a.c c.session_in-held.result c.code_number-refusal.result c.session_in-held.ensures c.code_number-refusal.ensures c.if-refusal-ne0.false in
    (c.if-c-eq-LIVE.true, t.session)

pub returns-then-c-eq-LIVE : goal.returns-then-c-eq-LIVE
unfolding step_c
returns-then-c-eq-LIVE c =
    let a = c.args in
    let t = taken a.c c.session_in-held.result c.code_number-refusal.result c.session_in-held.ensures c.code_number-refusal.ensures c.if-refusal-ne0.false in
    simp (c.live_step.ensures, t.passes, live-used a.c c.if-c-eq-LIVE.true a.s.now)

pub returns : goal.returns
unfolding step_c
returns c =
    let a = c.args in
    let t = taken a.c c.session_in-held.result c.code_number-refusal.result c.session_in-held.ensures c.code_number-refusal.ensures c.if-refusal-ne0.false in
    simp (c.stepped_shown.ensures, c.used_by.ensures, c.step.ensures, t.session, t.passes)
