-- `session::state::Session::due_taken` meets its contract.
use Rattle.session.specs.State.{take}
use Rattle.session.proofs.state.Session.due_taken.Goals as goal

pub returns : goal.returns
unfolding take
returns c = simp (c.moved.ensures, c.ahead_at-m.ensures)
