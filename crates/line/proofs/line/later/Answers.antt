-- `line::line::later` meets its contract.
use Prim.Native.Nat.{ℕ, max}
use mathlib.Core.Path.{◌≡◌, sym, ◌∙◌}
use native.Mathlib.Omega.{arith}
use lib.Dec.{ltb}
use borrow.Author.Tests.{ltb-true, ltb-false}
use Rattle.wire.proofs.TestLaws.{either}
use Rattle.line.specs.Line.{later}
use Rattle.line.proofs.line.later.Goals as goal

greatest : (n t : ℕ) → later n t ≡ max n t
unfolding later
greatest n t =
    either (λ (x : ℕ). x ≡ max n t) (ltb t n) (λ u. omega (arith, ltb-true t n u)) (λ u. omega (arith, ltb-false t n u))

pub returns : goal.returns
returns c = c.max.ensures ∙ sym (greatest c.args.now c.args.t)
