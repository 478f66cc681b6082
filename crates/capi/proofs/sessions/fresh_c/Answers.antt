-- `capi::sessions::fresh_c` meets its contract.
use Rattle.capi.specs.Sessions.{fresh_c}
use Rattle.capi.proofs.sessions.fresh_c.Goals as goal

pub returns : goal.returns
unfolding fresh_c
returns c = simp (c.from.ensures, c.fresh.ensures)
