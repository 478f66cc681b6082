-- `capi::lines::act_number` meets its contract.
use Rattle.capi.specs.Lines.{act_number}
use Rattle.capi.proofs.lines.act_number.Goals as goal

pub returns-in-None : goal.returns-in-None
unfolding act_number
returns-in-None c = simp c.in-None.is

pub returns-in-Down : goal.returns-in-Down
unfolding act_number
returns-in-Down c = simp (c.in-Some.is, c.in-Down.is)

pub returns-in-TestRequest : goal.returns-in-TestRequest
unfolding act_number
returns-in-TestRequest c = simp (c.in-Some.is, c.in-TestRequest.is)

pub returns-in-Heartbeat : goal.returns-in-Heartbeat
unfolding act_number
returns-in-Heartbeat c = simp (c.in-Some.is, c.in-Heartbeat.is)
