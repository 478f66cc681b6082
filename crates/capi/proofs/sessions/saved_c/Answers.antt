-- `capi::sessions::saved_c` meets its contract.
use Rattle.capi.specs.Sessions.{saved_c}
use Rattle.capi.proofs.sessions.saved_c.Goals as goal

pub returns : goal.returns
unfolding saved_c
returns c = simp (c.from.ensures, c.saved.ensures)
