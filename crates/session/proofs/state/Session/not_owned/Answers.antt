-- `session::state::Session::not_owned` meets its contract.
use mathlib.Core.Path.{refl}
use Rattle.session.specs.Day.{not_owned}
use Rattle.session.proofs.state.Session.not_owned.Goals as goal

pub returns : goal.returns
unfolding not_owned
returns c = refl
