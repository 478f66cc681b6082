-- `capi::sessions::CSendFromSend::from` meets its contract.
use Rattle.capi.specs.Sessions.{shown_send}
use Rattle.capi.proofs.sessions.CSendFromSend.from.Goals as goal

pub returns : goal.returns
unfolding shown_send
returns c = simp (c.to_send.ensures, c.told-t.ensures)
