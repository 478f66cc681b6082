-- `session::state::State::number` meets its contract.
use Rattle.session.proofs.state.State.number.Goals as goal

pub returns-in-Down : goal.returns-in-Down
returns-in-Down c = simp c.in-Down.is

pub returns-in-Waiting : goal.returns-in-Waiting
returns-in-Waiting c = simp c.in-Waiting.is

pub returns-in-Live : goal.returns-in-Live
returns-in-Live c = simp c.in-Live.is
