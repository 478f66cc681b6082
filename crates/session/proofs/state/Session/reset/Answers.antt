-- `session::state::Session::reset` meets its contract: the tests of rule 4 in order.
use borrow.Author.Tests.{lt-ltb, le-ltb}
use Rattle.session.specs.Rules.{reset}
use Rattle.session.proofs.state.Session.reset.Goals as goal

pub returns-then-new-e : goal.returns-then-new-e
unfolding reset
returns-then-new-e c = simp (c.stop.ensures, lt-ltb _ _ c.if-new-e.true)

pub returns-then-e-new : goal.returns-then-e-new
unfolding reset
returns-then-e-new c = simp (c.take.ensures, le-ltb _ _ c.if-new-e.false, lt-ltb _ _ c.if-e-new.true)

pub returns : goal.returns
unfolding reset
returns c = simp (c.take-2.ensures, le-ltb _ _ c.if-new-e.false, le-ltb _ _ c.if-e-new.false)
