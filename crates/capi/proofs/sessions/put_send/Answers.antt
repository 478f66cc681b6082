-- `capi::sessions::put_send` meets its contract: by the message's kind.
use native.Mathlib.Omega.{arith}
use borrow.Author.Tests.{ne_eqb}
use Rattle.capi.specs.Sessions.{outgoing_of, send_by, sent_by}
use Rattle.capi.proofs.SendLaws.{id-within}
use Rattle.capi.proofs.sessions.put_send.Goals as goal

pub overflow_cast-x : goal.overflow_cast-x
overflow_cast-x c =
    omega (arith, id-within c.args.x c.requires c.in-1.is)

pub returns-in-0 : goal.returns-in-0
unfolding outgoing_of send_by sent_by
returns-in-0 c =
    let h = c.requires in
    (simp (c.wrote.ensures, h, c.in-0.is), simp (h, c.in-0.is))

pub returns-in-1 : goal.returns-in-1
unfolding outgoing_of send_by sent_by
returns-in-1 c =
    let h = c.requires in
    let k = c.in-1.is in
    (simp (c.from.ensures, c.put_heartbeat_for.ensures.0, h, k), simp (c.put_heartbeat_for.ensures.1, h, k))

pub returns-in-2 : goal.returns-in-2
unfolding outgoing_of send_by sent_by
returns-in-2 c =
    let h = c.requires in
    let k = c.in-2.is in
    (simp (c.from-in-2.ensures, c.put_logout.ensures.0, h, k), simp (c.put_logout.ensures.1, h, k))

pub returns-in-3 : goal.returns-in-3
unfolding outgoing_of send_by sent_by
returns-in-3 c =
    let h = c.requires in
    let k = c.in-3.is in
    (simp (c.from-in-3.ensures, c.put_gap_fill.ensures.0, h, k), simp (c.put_gap_fill.ensures.1, h, k))

pub returns-in-5 : goal.returns-in-5
unfolding outgoing_of send_by sent_by
returns-in-5 c =
    let h = c.requires in
    let k = c.in-5.is in
    (simp (c.from-in-5.ensures, c.put_test_request.ensures.0, c.id_of.ensures, h, k), simp (c.put_test_request.ensures.1, c.id_of.ensures, h, k))

pub returns-in-6 : goal.returns-in-6
unfolding outgoing_of send_by sent_by
returns-in-6 c =
    let h = c.requires in
    let k = c.in-6.is in
    (simp (c.from-in-6.ensures, c.put_heartbeat.ensures.0, h, k), simp (c.put_heartbeat.ensures.1, h, k))

pub returns-in_default : goal.returns-in_default
unfolding outgoing_of send_by sent_by
returns-in_default c =
    let h = c.requires in
    let r = c.in_default.in_default-own.rest in
    (simp (c.from-in_default.ensures, c.put_resend_request.ensures.0, h, ne_eqb _ 0 r.0.0.0.0.0.1, ne_eqb _ 1 r.0.0.0.0.1, ne_eqb _ 2 r.0.0.0.1, ne_eqb _ 3 r.0.0.1, ne_eqb _ 5 r.0.1, ne_eqb _ 6 r.1), simp (c.put_resend_request.ensures.1, h, ne_eqb _ 0 r.0.0.0.0.0.1, ne_eqb _ 1 r.0.0.0.0.1, ne_eqb _ 2 r.0.0.0.1, ne_eqb _ 3 r.0.0.1, ne_eqb _ 5 r.0.1, ne_eqb _ 6 r.1))
