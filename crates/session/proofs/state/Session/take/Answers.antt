-- `session::state::Session::take` meets its contract.
use Rattle.session.specs.State.{take}
use Rattle.session.proofs.state.Session.take.Goals as goal

pub returns : goal.returns
unfolding take
returns c = cc
