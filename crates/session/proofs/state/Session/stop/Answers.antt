-- `session::state::Session::stop` meets its contract.
use Rattle.session.specs.State.{stop}
use Rattle.session.proofs.state.Session.stop.Goals as goal

pub returns : goal.returns
unfolding stop
returns c = c.leave.ensures
