-- The sum of a time and a wait, if it has 64 bits.
use Prim.Native.Nat.{ℕ, ◌<◌, ◌^◌}
use mathlib.Core.Path.{◌≡◌}
use native.Mathlib.Omega.{arith}
use borrow.Author.Tests.{le-leb, lt-leb}
use Rattle.std.specs.Prelude.{Option, Some, None, SomeIff}
use Rattle.line.specs.Tick.{most_time, at_time}

pub time-at : (t : ℕ) (x : Option ℕ) → SomeIff x (t < 2 ^ 64) t → x ≡ at_time t
unfolding at_time
time-at t None h = rw (lt-leb t most_time (omega arith))
time-at t (Some y) h = rw (h.1, le-leb t most_time (omega (arith, h.0)))
