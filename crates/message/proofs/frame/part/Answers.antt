-- `message::frame::part` meets its contract: the bytes end before the part does, or the part ends before it begins, or it is there.
use mathlib.Core.Path.{sym}
use native.Mathlib.Omega.{arith}
use Rattle.message.proofs.FrameLaws.{part-there, part-short, part-backwards}
use Rattle.message.proofs.frame.part.Goals as goal
use Rattle.message.proofs.frame.part.Goals.{then-s-end-via-then-s-end, then-s-end-via-else-s-end+then-end-from}

pub returns-then-s-end : goal.returns-then-s-end
returns-then-s-end c =
    let a = c.args in
    elim c.then-s-end.branch [
      | then-s-end-via-then-s-end w ↦ sym (part-short a.from a.end a.s.now w.if-s-end.true)
      | then-s-end-via-else-s-end+then-end-from w ↦ sym (part-backwards a.from a.end a.s.now w.if-end-from.true)
    ]

pub returns : goal.returns
returns c =
    let a = c.args in
    sym (part-there a.from a.end a.s.now (omega arith))
