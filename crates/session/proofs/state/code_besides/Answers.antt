-- `session::state::code_besides` meets its contract.
use Rattle.session.specs.State.{code_besides}
use Rattle.session.proofs.state.code_besides.Goals as goal

pub returns-in-Some : goal.returns-in-Some
returns-in-Some c = simp (c.besides.ensures, c.in-Some.is)

pub returns-in-None : goal.returns-in-None
unfolding code_besides
returns-in-None c = simp c.in-None.is
