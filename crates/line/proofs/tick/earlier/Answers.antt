-- `line::tick::earlier` meets its contract.
use Prim.Native.Nat.{ℕ, min}
use mathlib.Core.Path.{◌≡◌}
use mathlib.Core.Bool.{cond}
use native.Mathlib.Omega.{arith}
use lib.Dec.{ltb}
use borrow.Author.Tests.{ltb-true, ltb-false}
use Rattle.wire.proofs.TestLaws.{either}
use Rattle.line.specs.Tick.{earlier}
use Rattle.line.proofs.tick.earlier.Goals as goal

least : (a b : ℕ) → cond (ltb b a) b a ≡ min a b
least a b =
    either (λ (x : ℕ). x ≡ min a b) (ltb b a) (λ u. omega (arith, ltb-true b a u)) (λ u. omega (arith, ltb-false b a u))

pub returns-in-Some-other : goal.returns-in-Some-other
unfolding earlier
returns-in-Some-other c = simp (c.in-Some.is, c.in-Some-other.is, c.min.ensures, least c.in-Some.a c.in-Some-other.b)

pub returns-in-None-other : goal.returns-in-None-other
unfolding earlier
returns-in-None-other c = simp (c.in-Some.is, c.in-None-other.is)

pub returns-in-None : goal.returns-in-None
unfolding earlier
returns-in-None c = simp c.in-None.is
