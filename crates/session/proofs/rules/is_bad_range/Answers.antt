-- `session::rules::is_bad_range` meets its contract: its tests in order.
use borrow.Author.Tests.{le-leb, lt-leb, eq-eqb, ne_eqb}
use Rattle.session.specs.Rules.{is_bad_range}
use Rattle.session.proofs.rules.is_bad_range.Goals as goal

pub returns-then-s-eq0 : goal.returns-then-s-eq0
unfolding is_bad_range
returns-then-s-eq0 c = simp (eq-eqb _ _ c.if-s-eq0.true)

pub returns-then-o-s : goal.returns-then-o-s
unfolding is_bad_range
returns-then-o-s c = simp (ne_eqb _ _ c.if-s-eq0.false, le-leb _ _ c.if-o-s.true)

pub returns-then-e-eq0 : goal.returns-then-e-eq0
unfolding is_bad_range
returns-then-e-eq0 c = simp (ne_eqb _ _ c.if-s-eq0.false, lt-leb _ _ c.if-o-s.false, eq-eqb _ _ c.if-e-eq0.true)

pub returns : goal.returns
unfolding is_bad_range
returns c = simp (ne_eqb _ _ c.if-s-eq0.false, lt-leb _ _ c.if-o-s.false, ne_eqb _ _ c.if-e-eq0.false)
