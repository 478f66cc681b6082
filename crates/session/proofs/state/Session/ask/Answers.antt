-- `session::state::Session::ask` meets its contract: whether M stands, then PossDup.
use borrow.Author.Tests.{eq-eqb, ne_eqb}
use Rattle.session.specs.Rules.{ask}
use Rattle.session.proofs.state.Session.ask.Goals as goal

pub returns-then-self-eq0 : goal.returns-then-self-eq0
unfolding ask
returns-then-self-eq0 c = simp (c.request.ensures, eq-eqb _ 0 c.if-self-eq0.true)

pub returns-then-possdup : goal.returns-then-possdup
unfolding ask
returns-then-possdup c = simp (c.again.ensures, ne_eqb _ 0 c.if-self-eq0.false, c.if-possdup.true)

pub returns : goal.returns
unfolding ask
returns c = simp (c.answers.ensures, ne_eqb _ 0 c.if-self-eq0.false, c.if-possdup.false)
