-- `message::frame::front_length` meets its contract: the frame's tests as far as the Length, the sum aside.
use mathlib.Core.Path.{sym, ◌∙◌}
use borrow.Author.Tests.{le-leb, lt-leb}
use Rattle.message.proofs.FrameLaws.{framed-on, front-short, front-other, front_by}
use Rattle.message.proofs.frame.front_length.Goals as goal
use Rattle.message.proofs.frame.front_length.Goals.{then-n-lt-FRAME_BYTES-via-then-n-lt-FRAME_BYTES, then-n-lt-FRAME_BYTES-via-else-n-lt-FRAME_BYTES+then-n-gt-LONGEST}

pub returns-then-s-lt-TYPE_AT : goal.returns-then-s-lt-TYPE_AT
returns-then-s-lt-TYPE_AT c = sym (front-short c.args.s.now c.if-s-lt-TYPE_AT.true)

pub returns-then-s-ne-STX : goal.returns-then-s-ne-STX
returns-then-s-ne-STX c = sym (front-other c.args.s.now c.if-s-lt-TYPE_AT.false c.if-s-ne-STX.true)

pub returns-then-n-lt-FRAME_BYTES : goal.returns-then-n-lt-FRAME_BYTES
returns-then-n-lt-FRAME_BYTES c =
    let s = c.args.s.now in
    let n = c.read_u16-n.result in
    let f = front_by s n (framed-on s _ n c.if-s-lt-TYPE_AT.false c.if-s-ne-STX.false c.part.ensures c.read_u16-n.ensures) in
    elim c.then-n-lt-FRAME_BYTES.branch [
      | then-n-lt-FRAME_BYTES-via-then-n-lt-FRAME_BYTES w ↦ sym (f ∙ simp (lt-leb 58 n w.if-n-lt-FRAME_BYTES.true))
      | then-n-lt-FRAME_BYTES-via-else-n-lt-FRAME_BYTES+then-n-gt-LONGEST w ↦ sym (f ∙ simp (le-leb 58 n w.if-n-lt-FRAME_BYTES.false, lt-leb n 4096 w.if-n-gt-LONGEST.true))
    ]

pub returns-then-s-n : goal.returns-then-s-n
returns-then-s-n c =
    let s = c.args.s.now in
    let n = c.read_u16-n.result in
    let f = front_by s n (framed-on s _ n c.if-s-lt-TYPE_AT.false c.if-s-ne-STX.false c.part.ensures c.read_u16-n.ensures) in
    sym (f ∙ simp (le-leb 58 n c.if-n-lt-FRAME_BYTES.false, le-leb n 4096 (c.if-n-gt-LONGEST.false), lt-leb n _ c.if-s-n.true))

pub returns : goal.returns
returns c =
    let s = c.args.s.now in
    let n = c.read_u16-n.result in
    let f = front_by s n (framed-on s _ n c.if-s-lt-TYPE_AT.false c.if-s-ne-STX.false c.part.ensures c.read_u16-n.ensures) in
    sym (f ∙ simp (le-leb 58 n c.if-n-lt-FRAME_BYTES.false, le-leb n 4096 (c.if-n-gt-LONGEST.false), le-leb n _ c.if-s-n.false))
