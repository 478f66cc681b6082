-- `session::state::Session::test_request` meets its contract: rule 9, by whether a number is left.
use borrow.Author.Tests.{eq-eqb, ne_eqb}
use Rattle.session.specs.Rules.{test_request}
use Rattle.session.proofs.state.Session.test_request.Goals as goal

pub returns-then-o : goal.returns-then-o
unfolding test_request
returns-then-o c = simp (c.spent.ensures, eq-eqb _ _ c.if-o.true)

pub returns : goal.returns
unfolding test_request
returns c = simp (c.take.ensures, ne_eqb _ _ c.if-o.false)
