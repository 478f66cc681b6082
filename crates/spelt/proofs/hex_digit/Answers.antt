-- `spelt::hex_digit` meets its contract.
use mathlib.Core.Path.{refl}
use borrow.Author.Tests.{lt-ltb, le-ltb}
use Rattle.spelt.specs.Shown.{hex_digit}
use Rattle.spelt.proofs.hex_digit.Goals as goal

pub returns-then-n-lt10 : goal.returns-then-n-lt10
unfolding hex_digit
returns-then-n-lt10 c = rw (lt-ltb _ _ c.if-n-lt10.true) refl

pub returns-else-n-lt10 : goal.returns-else-n-lt10
unfolding hex_digit
returns-else-n-lt10 c = rw (le-ltb _ _ c.if-n-lt10.false) refl
