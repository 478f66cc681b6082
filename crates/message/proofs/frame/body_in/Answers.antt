-- `message::frame::body_in` meets its contract: no body where the frame itself does not fit.
use borrow.Author.Tests.{le-leb, lt-leb}
use Rattle.message.specs.Frame.{body_in}
use Rattle.message.proofs.frame.body_in.Goals as goal

pub returns-then-length-lt-FRAME_BYTES : goal.returns-then-length-lt-FRAME_BYTES
unfolding body_in
returns-then-length-lt-FRAME_BYTES c = simp (lt-leb 58 _ c.if-length-lt-FRAME_BYTES.true)

pub returns : goal.returns
unfolding body_in
returns c = simp (c.part.ensures, le-leb 58 _ c.if-length-lt-FRAME_BYTES.false)
