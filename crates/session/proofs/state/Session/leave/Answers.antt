-- `session::state::Session::leave` meets its contract: both arms of the test whether a number is left.
use borrow.Author.Tests.{lt-ltb, le-ltb}
use Rattle.session.specs.State.{leave}
use Rattle.session.proofs.state.Session.leave.Goals as goal

pub returns-then-o-lt-LAST : goal.returns-then-o-lt-LAST
unfolding leave
returns-then-o-lt-LAST c = simp (c.answers.ensures, c.moved.ensures, lt-ltb _ _ c.if-o-lt-LAST.true)

pub returns-else-o-lt-LAST : goal.returns-else-o-lt-LAST
unfolding leave
returns-else-o-lt-LAST c = simp (c.answers-else-o-lt-LAST.ensures, c.moved-else-o-lt-LAST.ensures, le-ltb _ _ c.if-o-lt-LAST.false)
