-- `capi::lines::act_send` meets its contract.
use Rattle.capi.specs.Lines.{act_send}
use Rattle.capi.proofs.lines.act_send.Goals as goal

pub returns-in-None : goal.returns-in-None
unfolding act_send
returns-in-None c = simp (c.no_send.ensures, c.in-None.is)

pub returns-in-Down : goal.returns-in-Down
unfolding act_send
returns-in-Down c = simp (c.no_send-in-Down.ensures, c.in-Some.is, c.in-Down.is)

pub returns-in-TestRequest : goal.returns-in-TestRequest
unfolding act_send
returns-in-TestRequest c = simp (c.to_send.ensures, c.in-Some.is, c.in-TestRequest.is)

pub returns-in-Heartbeat : goal.returns-in-Heartbeat
unfolding act_send
returns-in-Heartbeat c = simp (c.to_send-in-Heartbeat.ensures, c.in-Some.is, c.in-Heartbeat.is)
