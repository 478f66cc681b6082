-- `session::state::Session::spent` meets its contract.
use Rattle.session.specs.State.{spent}
use Rattle.session.proofs.state.Session.spent.Goals as goal

pub returns : goal.returns
unfolding spent
returns c = cc
