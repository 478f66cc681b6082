-- `calls::has_room` meets its contract: its tests in order.
use borrow.Author.Tests.{le-leb, lt-leb}
use Rattle.calls.specs.Steps.{has_room}
use Rattle.calls.proofs.has_room.Goals as goal

pub returns-then-rows-lt-A_ROW : goal.returns-then-rows-lt-A_ROW
unfolding has_room
returns-then-rows-lt-A_ROW c = simp (lt-leb _ _ c.if-rows-lt-A_ROW.true)

pub returns : goal.returns
unfolding has_room
returns c = simp (le-leb _ _ c.if-rows-lt-A_ROW.false)
