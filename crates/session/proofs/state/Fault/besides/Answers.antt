-- `session::state::Fault::besides` meets its contract.
use Rattle.session.specs.State.{code_besides}
use Rattle.session.proofs.state.Fault.besides.Goals as goal

pub returns-in-Refused : goal.returns-in-Refused
unfolding code_besides
returns-in-Refused c = simp (c.besides.ensures, c.in-Refused.is)

pub returns-in-Halted : goal.returns-in-Halted
unfolding code_besides
returns-in-Halted c = simp c.in-Halted.is
