-- `session::state::Fault::number` meets its contract.
use Rattle.session.specs.State.{code_number}
use Rattle.session.proofs.state.Fault.number.Goals as goal

pub returns-in-Refused : goal.returns-in-Refused
unfolding code_number
returns-in-Refused c = simp (c.number.ensures, c.in-Refused.is)

pub returns-in-Halted : goal.returns-in-Halted
unfolding code_number
returns-in-Halted c = simp (c.number-in-Halted.ensures, c.in-Halted.is)
