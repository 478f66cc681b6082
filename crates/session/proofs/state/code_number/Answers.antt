-- `session::state::code_number` meets its contract.
use Rattle.session.specs.State.{code_number}
use Rattle.session.proofs.state.code_number.Goals as goal

pub returns-in-Some : goal.returns-in-Some
returns-in-Some c = simp (c.number.ensures, c.in-Some.is)

pub returns-in-None : goal.returns-in-None
unfolding code_number
returns-in-None c = simp c.in-None.is
