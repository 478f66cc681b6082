-- `session::rules::fill_to` meets its contract: one test.
use borrow.Author.Tests.{lt-ltb, le-ltb}
use Rattle.session.specs.Rules.{fill_to}
use Rattle.session.proofs.rules.fill_to.Goals as goal

pub returns-then-next-o : goal.returns-then-next-o
unfolding fill_to
returns-then-next-o c = simp (lt-ltb _ _ c.if-next-o.true)

pub returns-else-next-o : goal.returns-else-next-o
unfolding fill_to
returns-else-next-o c = simp (le-ltb _ _ c.if-next-o.false)
