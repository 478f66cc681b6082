-- `session::state::Session::not_connected` meets its contract.
use mathlib.Core.Path.{refl}
use Rattle.session.specs.Day.{not_connected}
use Rattle.session.proofs.state.Session.not_connected.Goals as goal

pub returns : goal.returns
unfolding not_connected
returns c = refl
