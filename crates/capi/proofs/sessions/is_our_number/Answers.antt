-- `capi::sessions::is_our_number` meets its contract.
use mathlib.Core.Path.{refl}
use Rattle.capi.specs.Sessions.{is_our_number}
use Rattle.capi.proofs.sessions.is_our_number.Goals as goal

pub returns : goal.returns
unfolding is_our_number
returns c = refl
