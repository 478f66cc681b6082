-- `wire::text::takes_text` meets its contract: the code's tests are the definition's, in its order.
use Rattle.std.proofs.Common.{◌<◌, ◌≤◌, sym, ◌∙◌, arith, le-ltb, le-leb}
use borrow.Author.Tests.{lt-leb}
use Rattle.wire.specs.Text.{takes}
use Rattle.wire.proofs.TextLaws.{takes-by-characters}
use Rattle.wire.proofs.text.takes_text.Goals as goal

pub returns-then-width-eq0 : goal.returns-then-width-eq0
unfolding takes
returns-then-width-eq0 c =
    let w = c.args.width in
    let l : w < 1 = omega arith in
    simp (lt-leb 1 w l)

pub returns-then-width-gt-LONGEST : goal.returns-then-width-gt-LONGEST
unfolding takes
returns-then-width-gt-LONGEST c =
    let w = c.args.width in
    let l : 1 ≤ w = omega arith in
    simp (le-leb 1 w l, lt-leb w 4096 c.if-width-gt-LONGEST.true)

pub returns-then-width-t : goal.returns-then-width-t
unfolding takes
returns-then-width-t c =
    let w = c.args.width in
    let l : 1 ≤ w = omega arith in
    simp (le-leb 1 w l, le-leb w 4096 c.if-width-gt-LONGEST.false, le-ltb _ w c.if-width-t.true)

pub returns : goal.returns
returns c =
    let a = c.args in
    c.all_characters.ensures ∙ sym (takes-by-characters _ a.width a.t.now (omega arith) (omega arith))
