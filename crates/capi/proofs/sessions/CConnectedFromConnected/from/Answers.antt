-- `capi::sessions::CConnectedFromConnected::from` meets its contract.
use Rattle.capi.specs.Sessions.{shown_connected}
use Rattle.capi.proofs.sessions.CConnectedFromConnected.from.Goals as goal

pub returns : goal.returns
unfolding shown_connected
returns c = simp (c.code_besides.ensures, c.from.ensures, c.code_number.ensures)
