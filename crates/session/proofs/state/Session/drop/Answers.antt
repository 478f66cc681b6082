-- `session::state::Session::drop` meets its contract.
use Rattle.session.specs.Day.{drop}
use Rattle.session.proofs.state.Session.drop.Goals as goal

pub returns : goal.returns
unfolding drop
returns c = c.moved.ensures
