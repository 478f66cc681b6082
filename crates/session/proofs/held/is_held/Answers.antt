-- `session::held::is_held` meets its contract: the tests in their order.
use mathlib.Core.Path.{sym, ◌∙◌}
use Prim.Native.Nat.{◌≤◌, ◌<◌}
use native.Mathlib.Omega.{arith}
use borrow.Author.Tests.{le-leb, lt-leb}
use Rattle.session.specs.Held.{is_held}
use Rattle.session.proofs.held.is_held.Goals as goal

pub returns-then-state-gt-LIVE : goal.returns-then-state-gt-LIVE
unfolding is_held
returns-then-state-gt-LIVE c = simp (lt-leb _ 2 c.if-state-gt-LIVE.true)

pub returns-then-not-is_plain_comp_id : goal.returns-then-not-is_plain_comp_id
unfolding is_held
returns-then-not-is_plain_comp_id c = simp (le-leb _ 2 c.if-state-gt-LIVE.false, sym c.is_plain_comp_id.ensures ∙ c.if-not-is_plain_comp_id.true)

pub returns-then-e-eq0 : goal.returns-then-e-eq0
unfolding is_held
returns-then-e-eq0 c =
    let l : c.args.e < 1 = omega arith in
    simp (le-leb _ 2 c.if-state-gt-LIVE.false, sym c.is_plain_comp_id.ensures ∙ c.if-not-is_plain_comp_id.false, lt-leb 1 _ l)

pub returns-then-o-least_own : goal.returns-then-o-least_own
unfolding is_held
returns-then-o-least_own c =
    let l : 1 ≤ c.args.e = omega arith in
    simp (
      le-leb _ 2 c.if-state-gt-LIVE.false,
      sym c.is_plain_comp_id.ensures ∙ c.if-not-is_plain_comp_id.false,
      le-leb 1 _ l,
      ← c.least_own.ensures,
      lt-leb _ _ c.if-o-least_own.true,
    )

pub returns : goal.returns
unfolding is_held
returns c =
    let l : 1 ≤ c.args.e = omega arith in
    simp (
      le-leb _ 2 c.if-state-gt-LIVE.false,
      sym c.is_plain_comp_id.ensures ∙ c.if-not-is_plain_comp_id.false,
      le-leb 1 _ l,
      ← c.least_own.ensures,
      le-leb _ _ c.if-o-least_own.false,
      c.is_ahead.ensures,
    )
