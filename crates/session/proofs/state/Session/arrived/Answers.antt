-- `session::state::Session::arrived` meets its contract: each arm is its clause.
use Rattle.session.specs.Day.{arrived}
use Rattle.session.proofs.state.Session.arrived.Goals as goal

pub returns-in-Err : goal.returns-in-Err
unfolding arrived
returns-in-Err c = simp (c.refused.ensures, c.in-Err.is)

pub returns-in-Ok : goal.returns-in-Ok
unfolding arrived
returns-in-Ok c = simp (c.ruled.ensures, c.in-Ok.is)
