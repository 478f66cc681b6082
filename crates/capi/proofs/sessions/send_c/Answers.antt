-- `capi::sessions::send_c` meets its contract: checked, and then written for our Comp ID.
use mathlib.Core.Path.{sym, ◌∙◌}
use Rattle.capi.specs.Sessions.{send_by, sent_by, send_c, sent_c}
use Rattle.capi.proofs.SessionLaws.{taken, not_taken}
use Rattle.capi.proofs.sessions.send_c.Goals as goal

pub returns-then-refusal-ne0 : goal.returns-then-refusal-ne0
unfolding send_c sent_c
returns-then-refusal-ne0 c =
    let a = c.args in
    let u = not_taken a.c c.session_in-held.result c.code_number-refusal.result c.session_in-held.ensures c.code_number-refusal.ensures c.if-refusal-ne0.true in
    (simp (c.wrote.ensures, u.number, u.fails), simp u.fails)

pub returns-then-not-is_send : goal.returns-then-not-is_send
unfolding send_c sent_c send_by sent_by
returns-then-not-is_send c =
    let a = c.args in
    let t = taken a.c c.session_in-held.result c.code_number-refusal.result c.session_in-held.ensures c.code_number-refusal.ensures c.if-refusal-ne0.false in
    let l = sym c.is_send.ensures ∙ c.if-not-is_send.true in
    (simp (c.wrote-then-not-is_send.ensures, t.passes, l), simp (t.passes, l))

pub put_send-requires : goal.put_send-requires
put_send-requires c =
    sym c.is_send.ensures ∙ c.if-not-is_send.false

pub returns : goal.returns
unfolding send_c sent_c
returns c =
    let a = c.args in
    let t = taken a.c c.session_in-held.result c.code_number-refusal.result c.session_in-held.ensures c.code_number-refusal.ensures c.if-refusal-ne0.false in
    let f = c.fixed_part.ensures in
    (simp (c.put_send.ensures.0, f, t.passes), simp (c.put_send.ensures.1, f, t.passes))
