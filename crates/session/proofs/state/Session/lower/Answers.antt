-- `session::state::Session::lower` meets its contract: rule 6, by PossDup.
use Rattle.session.specs.Rules.{lower}
use Rattle.session.proofs.state.Session.lower.Goals as goal

pub returns-then-possdup : goal.returns-then-possdup
unfolding lower
returns-then-possdup c = simp (c.unmoved.ensures, c.if-possdup.true)

pub returns-else-possdup : goal.returns-else-possdup
unfolding lower
returns-else-possdup c = simp (c.stop.ensures, c.if-possdup.false)
