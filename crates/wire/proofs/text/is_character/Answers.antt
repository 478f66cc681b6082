-- `wire::text::is_character` meets its contract: the code's two tests are the definition's, since no byte is above 255.
use Rattle.std.proofs.Common.{◌<◌, refl, arith, le-leb}
use borrow.Author.Tests.{lt-leb}
use Rattle.wire.specs.Text.{is_character}
use Rattle.wire.proofs.TextLaws.{accented-above}
use Rattle.wire.proofs.text.is_character.Goals as goal

pub returns-then-b-ge32 : goal.returns-then-b-ge32
unfolding is_character
returns-then-b-ge32 c = rw (c.in-Ascii.is, le-leb _ _ c.if-b-ge32.true) refl

pub returns-else-b-ge32 : goal.returns-else-b-ge32
unfolding is_character
returns-else-b-ge32 c = rw (c.in-Ascii.is, lt-leb _ _ c.if-b-ge32.false) refl

pub returns-then-b-ge32-2 : goal.returns-then-b-ge32-2
returns-then-b-ge32-2 c = rw c.in-Accented.is (accented-above _ c.if-b-ge32-2.true (omega arith))

pub returns-else-b-ge32-2 : goal.returns-else-b-ge32-2
unfolding is_character
returns-else-b-ge32-2 c =
    let l : c.args.b < 128 = omega arith in
    rw (c.in-Accented.is, lt-leb _ _ c.if-b-ge32-2.false, lt-leb 128 _ l) refl
