-- `session::state::Session::again` meets its contract: whether a repeat is left.
use borrow.Author.Tests.{le-leb, lt-leb}
use Rattle.session.specs.Rules.{again}
use Rattle.session.proofs.state.Session.again.Goals as goal

pub returns-then-repeats-ge-MOST_REPEATS : goal.returns-then-repeats-ge-MOST_REPEATS
unfolding again
returns-then-repeats-ge-MOST_REPEATS c = simp (c.stop.ensures, le-leb 2 _ c.if-repeats-ge-MOST_REPEATS.true)

pub returns : goal.returns
unfolding again
returns c = simp (c.request.ensures, lt-leb 2 _ c.if-repeats-ge-MOST_REPEATS.false)
