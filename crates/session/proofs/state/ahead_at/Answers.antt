-- `session::state::ahead_at` meets its contract: one test.
use borrow.Author.Tests.{lt-ltb, le-ltb}
use Rattle.session.specs.State.{ahead_at}
use Rattle.session.proofs.state.ahead_at.Goals as goal

pub returns-then-m-e : goal.returns-then-m-e
unfolding ahead_at
returns-then-m-e c = simp (lt-ltb _ _ c.if-m-e.true)

pub returns-else-m-e : goal.returns-else-m-e
unfolding ahead_at
returns-else-m-e c = simp (le-ltb _ _ c.if-m-e.false)
