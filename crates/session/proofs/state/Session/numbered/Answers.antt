-- `session::state::Session::numbered` meets its contract: the tests of rules 6 to 9 in order.
use mathlib.Core.Path.{◌≡◌}
use native.Mathlib.Omega.{arith}
use borrow.Author.Tests.{lt-ltb, le-ltb, eq-eqb, ne_eqb}
use Rattle.session.specs.Rules.{numbered}
use Rattle.session.proofs.state.Session.numbered.Goals as goal

pub returns-then-n-e : goal.returns-then-n-e
unfolding numbered
returns-then-n-e c = simp (c.lower.ensures, lt-ltb _ _ c.if-n-e.true)

pub returns-then-e-n : goal.returns-then-e-n
unfolding numbered
returns-then-e-n c = simp (c.higher.ensures, le-ltb _ _ c.if-n-e.false, lt-ltb _ _ c.if-e-n.true)

pub returns-then-e : goal.returns-then-e
unfolding numbered
returns-then-e c =
    let l : c.args.n ≡ 4294967295 = omega (arith, c.if-n-e.false, c.if-e-n.false, c.if-e.true) in
    simp (c.stop.ensures, le-ltb _ _ c.if-n-e.false, le-ltb _ _ c.if-e-n.false, eq-eqb _ _ l)

pub equal-requires : goal.equal-requires
equal-requires c = omega arith

pub returns : goal.returns
unfolding numbered
returns c =
    let l : c.args.n ≡ 4294967295 → ⊥ = λ h. c.if-e.false (omega (arith, c.if-n-e.false, c.if-e-n.false)) in
    simp (c.equal.ensures, le-ltb _ _ c.if-n-e.false, le-ltb _ _ c.if-e-n.false, ne_eqb _ _ l)
