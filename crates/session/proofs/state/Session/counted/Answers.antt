-- `session::state::Session::counted` meets its contract.
use Rattle.session.proofs.state.Session.counted.Goals as goal

pub returns : goal.returns
returns c = simp c.repeats_at-left.ensures
