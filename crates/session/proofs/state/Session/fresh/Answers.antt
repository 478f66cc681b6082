-- `session::state::Session::fresh` meets its contract.
use Rattle.session.specs.Day.{fresh}
use Rattle.session.proofs.state.Session.fresh.Goals as goal

pub returns : goal.returns
unfolding fresh
returns c = c.day.ensures
