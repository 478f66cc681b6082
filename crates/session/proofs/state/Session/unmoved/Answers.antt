-- `session::state::Session::unmoved` meets its contract.
use Rattle.session.specs.State.{unmoved}
use Rattle.session.proofs.state.Session.unmoved.Goals as goal

pub returns : goal.returns
unfolding unmoved
returns c = c.answers.ensures
