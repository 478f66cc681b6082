-- `wire::text::null_in` meets its contract: the byte behind the characters is the null, or there is none.
use Rattle.std.proofs.Common.{sym, arith}
use Rattle.wire.proofs.TextLaws.{null-here, null-stopped, null-missing}
use Rattle.wire.proofs.text.null_in.Goals as goal
use Rattle.wire.proofs.text.null_in.Goals.{else-n-s-via-then-n-s+else-s-n-eq0, else-n-s-via-else-n-s}

pub returns-then-s-n-eq0 : goal.returns-then-s-n-eq0
returns-then-s-n-eq0 c =
    let n = c.characters_in-n in
    let s = c.args.s.now in
    sym (null-here _ s n.result n.ensures (omega arith) (c.if-s-n-eq0.true))

pub returns : goal.returns
returns c =
    let n = c.characters_in-n in
    let s = c.args.s.now in
    elim c.else-n-s.branch [
      | else-n-s-via-then-n-s+else-s-n-eq0 w ↦ sym (null-stopped _ s n.result n.ensures w.if-n-s.true w.if-s-n-eq0.false)
      | else-n-s-via-else-n-s w ↦ sym (null-missing _ s n.result n.ensures w.if-n-s.false)
    ]
