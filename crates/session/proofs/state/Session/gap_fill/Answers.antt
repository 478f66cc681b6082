-- `session::state::Session::gap_fill` meets its contract: rule 9, one test.
use mathlib.Core.Path.{◌≡◌}
use Prim.Native.Nat.{◌+◌, ◌-◌}
use native.Mathlib.Omega.{arith}
use borrow.Author.Tests.{lt-ltb, le-ltb}
use Rattle.session.specs.Rules.{gap_fill}
use Rattle.session.proofs.state.Session.gap_fill.Goals as goal

pub overflow_add-last : goal.overflow_add-last
overflow_add-last c = omega arith

pub returns-then-n-new : goal.returns-then-n-new
unfolding gap_fill
returns-then-n-new c =
    let new = c.args.new in
    let l : new - 1 + 1 ≡ new = omega (arith, c.if-n-new.true) in
    simp (c.take.ensures, lt-ltb _ _ c.if-n-new.true, l)

pub returns : goal.returns
unfolding gap_fill
returns c = simp (c.stop.ensures, le-ltb _ _ c.if-n-new.false)
