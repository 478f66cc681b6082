-- `sheet::sheet::next_count` meets its contract: by the test.
use borrow.Author.Tests.{lt-ltb, le-ltb}
use Rattle.sheet.specs.Sheet.{next_count}
use Rattle.sheet.proofs.sheet.next_count.Goals as goal

pub returns-then-k-lt18446744073709551615 : goal.returns-then-k-lt18446744073709551615
unfolding next_count
returns-then-k-lt18446744073709551615 c = simp (lt-ltb _ _ c.if-k-lt18446744073709551615.true)

pub returns-else-k-lt18446744073709551615 : goal.returns-else-k-lt18446744073709551615
unfolding next_count
returns-else-k-lt18446744073709551615 c = simp (le-ltb _ _ c.if-k-lt18446744073709551615.false)
