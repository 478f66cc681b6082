-- `session::held::is_ahead` meets its contract: the tests in their order.
use borrow.Author.Tests.{eq-eqb, ne_eqb, le-leb, lt-leb}
use Rattle.session.specs.Held.{is_ahead}
use Rattle.session.proofs.held.is_ahead.Goals as goal

pub returns-then-m-eq0 : goal.returns-then-m-eq0
unfolding is_ahead
returns-then-m-eq0 c = simp (eq-eqb _ 0 c.if-m-eq0.true)

pub returns-then-state-ne-LIVE : goal.returns-then-state-ne-LIVE
unfolding is_ahead
returns-then-state-ne-LIVE c = simp (ne_eqb _ 0 c.if-m-eq0.false, ne_eqb _ 2 c.if-state-ne-LIVE.true)

pub returns-then-m-lt2 : goal.returns-then-m-lt2
unfolding is_ahead
returns-then-m-lt2 c = simp (ne_eqb _ 0 c.if-m-eq0.false, eq-eqb _ 2 c.if-state-ne-LIVE.false, lt-leb 2 _ c.if-m-lt2.true)

pub returns-then-m-e : goal.returns-then-m-e
unfolding is_ahead
returns-then-m-e c = simp (ne_eqb _ 0 c.if-m-eq0.false, eq-eqb _ 2 c.if-state-ne-LIVE.false, le-leb 2 _ c.if-m-lt2.false, lt-leb _ _ c.if-m-e.true)

pub returns-then-repeats-gt-MOST_REPEATS : goal.returns-then-repeats-gt-MOST_REPEATS
unfolding is_ahead
returns-then-repeats-gt-MOST_REPEATS c =
    simp (
      ne_eqb _ 0 c.if-m-eq0.false,
      eq-eqb _ 2 c.if-state-ne-LIVE.false,
      le-leb 2 _ c.if-m-lt2.false,
      le-leb _ _ c.if-m-e.false,
      lt-leb _ 2 c.if-repeats-gt-MOST_REPEATS.true,
    )

pub returns : goal.returns
unfolding is_ahead
returns c =
    simp (
      ne_eqb _ 0 c.if-m-eq0.false,
      eq-eqb _ 2 c.if-state-ne-LIVE.false,
      le-leb 2 _ c.if-m-lt2.false,
      le-leb _ _ c.if-m-e.false,
      le-leb _ 2 c.if-repeats-gt-MOST_REPEATS.false,
    )
