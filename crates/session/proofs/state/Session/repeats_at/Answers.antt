-- `session::state::Session::repeats_at` meets its contract: two tests.
use borrow.Author.Tests.{eq-eqb, ne_eqb}
use Rattle.session.specs.State.{repeats_at}
use Rattle.session.proofs.state.Session.repeats_at.Goals as goal

pub returns-then-m-eq0 : goal.returns-then-m-eq0
unfolding repeats_at
returns-then-m-eq0 c = simp (eq-eqb _ 0 c.if-m-eq0.true)

pub returns-then-e-self : goal.returns-then-e-self
unfolding repeats_at
returns-then-e-self c = simp (ne_eqb _ 0 c.if-m-eq0.false, eq-eqb _ _ c.if-e-self.true)

pub returns-else-e-self : goal.returns-else-e-self
unfolding repeats_at
returns-else-e-self c = simp (ne_eqb _ 0 c.if-m-eq0.false, ne_eqb _ _ c.if-e-self.false)
