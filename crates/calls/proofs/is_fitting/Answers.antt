-- `calls::is_fitting` meets its contract: its tests in order.
use mathlib.Core.Path.{sym}
use borrow.Author.Tests.{le-leb, lt-leb}
use Rattle.calls.specs.Steps.{fits}
use Rattle.calls.proofs.SlotLaws.{two-sizes}
use Rattle.calls.proofs.is_fitting.Goals as goal

pub returns-then-at : goal.returns-then-at
unfolding fits
returns-then-at c = simp (lt-leb _ _ c.if-at.true)

pub returns-then-rows-row_room : goal.returns-then-rows-row_room
unfolding fits
returns-then-rows-row_room c =
    let z = c.args in
    simp (le-leb _ _ c.if-at.false, sym (c.row_room.ensures.0 z.at 0), lt-leb _ _ c.if-rows-row_room.true)

pub returns : goal.returns
unfolding fits
returns c =
    let z = c.args in
    simp (
      le-leb _ _ c.if-at.false,
      sym (c.row_room.ensures.0 z.at 0),
      le-leb _ _ c.if-rows-row_room.false,
      two-sizes z.answer,
      sym c.send_room.ensures.0,
      sym c.send_room-2.ensures.0,
    )
