-- `plain::stop` meets its contract.
use borrow.Author.Tests.{lt-ltb, le-ltb}
use Rattle.plain.specs.Plain.{stop}
use Rattle.plain.proofs.stop.Goals as goal

pub returns-then-o-lt-LAST : goal.returns-then-o-lt-LAST
unfolding stop
returns-then-o-lt-LAST c = simp (c.tells.ensures, lt-ltb _ _ c.if-o-lt-LAST.true)

pub returns : goal.returns
unfolding stop
returns c = simp (c.tells-2.ensures, le-ltb _ _ c.if-o-lt-LAST.false)
