-- `capi::sessions::CMadeFromMade::from` meets its contract.
use Rattle.capi.specs.Sessions.{shown_made}
use Rattle.capi.proofs.sessions.CMadeFromMade.from.Goals as goal

pub returns : goal.returns
unfolding shown_made
returns c = simp (c.made.ensures, c.from.ensures, c.code_number.ensures)
