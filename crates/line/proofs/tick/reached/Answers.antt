-- `line::tick::reached` meets its contract: the sum is never made.
use native.Mathlib.Omega.{arith}
use borrow.Author.Tests.{lt-leb, le-leb, leb-true, leb-false}
use Prim.Native.Nat.{ℕ, ◌+◌, ◌-◌, ◌≤◌}
use mathlib.Core.Path.{◌≡◌, refl, sym}
use mathlib.Core.Bool.{Bool, true, false}
use lib.Dec.{leb}
use Rattle.line.specs.Tick.{reached}
use Rattle.line.proofs.tick.reached.Goals as goal

wait-over : (s w n : ℕ) → s ≤ n → leb w (n - s) ≡ leb (s + w) n
wait-over s w n l = go (leb w (n - s)) refl
  where
    go : (t : Bool) → leb w (n - s) ≡ t → t ≡ leb (s + w) n
    go true e = sym (le-leb (s + w) n (omega (arith, leb-true w (n - s) e)))
    go false e = sym (lt-leb (s + w) n (omega (arith, leb-false w (n - s) e)))

pub returns-then-n-since : goal.returns-then-n-since
unfolding reached
returns-then-n-since c = simp (lt-leb (c.args.since + c.args.wait) c.args.n (omega (arith, c.if-n-since.true)))

pub returns : goal.returns
unfolding reached
returns c = wait-over c.args.since c.args.wait c.args.n c.if-n-since.false
