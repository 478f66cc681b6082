-- `message::frame::check_frame` meets its contract: the tests in the reader's order 2, 1, 3, 1, 4.
use mathlib.Core.Path.{sym, ◌∙◌}
use Prim.Native.Nat.{◌≤◌, ◌<◌}
use native.Mathlib.Omega.{arith}
use lib.ListN.{length}
use borrow.Author.Tests.{le-leb, lt-leb, eq-eqb, ne_eqb}
use Rattle.message.specs.Frame.{framed, framed_by}
use Rattle.message.proofs.FrameLaws.{framed-on, framed-sum}
use Rattle.message.proofs.frame.check_frame.Goals as goal
use Rattle.message.proofs.frame.check_frame.Goals.{then-length-lt-FRAME_BYTES-via-then-length-lt-FRAME_BYTES, then-length-lt-FRAME_BYTES-via-else-length-lt-FRAME_BYTES+then-length-gt-LONGEST}

pub returns-then-s-eq0 : goal.returns-then-s-eq0
unfolding framed
returns-then-s-eq0 c =
    let l : length c.args.s.now < 1 = omega arith in
    simp (lt-leb 1 _ l)

pub returns-then-s-ne-STX : goal.returns-then-s-ne-STX
unfolding framed
returns-then-s-ne-STX c =
    let l : 1 ≤ length c.args.s.now = omega arith in
    simp (le-leb 1 _ l, ne_eqb _ 2 c.if-s-ne-STX.true)

pub returns-then-s-lt-TYPE_AT : goal.returns-then-s-lt-TYPE_AT
unfolding framed
returns-then-s-lt-TYPE_AT c =
    let l : 1 ≤ length c.args.s.now = omega arith in
    simp (le-leb 1 _ l, eq-eqb _ 2 c.if-s-ne-STX.false, lt-leb 3 _ c.if-s-lt-TYPE_AT.true)

pub returns-then-length-lt-FRAME_BYTES : goal.returns-then-length-lt-FRAME_BYTES
unfolding framed_by
returns-then-length-lt-FRAME_BYTES c =
    let s = c.args.s.now in
    let n = c.read_u16-length.result in
    let f = framed-on s _ n c.if-s-lt-TYPE_AT.false c.if-s-ne-STX.false c.part.ensures c.read_u16-length.ensures in
    elim c.then-length-lt-FRAME_BYTES.branch [
      | then-length-lt-FRAME_BYTES-via-then-length-lt-FRAME_BYTES w ↦ sym (f ∙ simp (lt-leb 58 n w.if-length-lt-FRAME_BYTES.true))
      | then-length-lt-FRAME_BYTES-via-else-length-lt-FRAME_BYTES+then-length-gt-LONGEST w ↦ sym (f ∙ simp (le-leb 58 n w.if-length-lt-FRAME_BYTES.false, lt-leb n 4096 w.if-length-gt-LONGEST.true))
    ]

pub returns-then-s-length : goal.returns-then-s-length
unfolding framed_by
returns-then-s-length c =
    let s = c.args.s.now in
    let n = c.read_u16-length.result in
    let f = framed-on s _ n c.if-s-lt-TYPE_AT.false c.if-s-ne-STX.false c.part.ensures c.read_u16-length.ensures in
    sym (f ∙ simp (le-leb 58 n c.if-length-lt-FRAME_BYTES.false, le-leb n 4096 (c.if-length-gt-LONGEST.false), lt-leb n _ c.if-s-length.true))

pub returns-then-crc32c-read_u32 : goal.returns-then-crc32c-read_u32
returns-then-crc32c-read_u32 c =
    let s = c.args.s.now in
    let n = c.read_u16-length.result in
    let f = framed-on s _ n c.if-s-lt-TYPE_AT.false c.if-s-ne-STX.false c.part.ensures c.read_u16-length.ensures in
    let g = framed-sum n s _ _ _ _ c.if-length-lt-FRAME_BYTES.false (c.if-length-gt-LONGEST.false) c.if-s-length.false c.part-2.ensures c.crc32c.ensures c.part-3.ensures c.read_u32.ensures in
    sym (f ∙ g ∙ simp (ne_eqb _ _ c.if-crc32c-read_u32.true))

pub returns : goal.returns
returns c =
    let s = c.args.s.now in
    let n = c.read_u16-length.result in
    let f = framed-on s _ n c.if-s-lt-TYPE_AT.false c.if-s-ne-STX.false c.part.ensures c.read_u16-length.ensures in
    let sum = framed-sum n s _ _ _ _ c.if-length-lt-FRAME_BYTES.false (c.if-length-gt-LONGEST.false) c.if-s-length.false c.part-2.ensures c.crc32c.ensures c.part-3.ensures c.read_u32.ensures in
    sym (f ∙ sum ∙ simp (eq-eqb _ _ c.if-crc32c-read_u32.false))
