-- `session::rules::fill_end` meets its contract: its tests in order; `e + 1` is made only below O, where it cannot wrap.
use Prim.Native.Nat.{◌+◌}
use native.Mathlib.Omega.{arith}
use borrow.Author.Tests.{lt-ltb, le-ltb, eq-eqb, ne_eqb}
use Rattle.session.specs.Rules.{fill_end}
use Rattle.session.proofs.rules.fill_end.Goals as goal

pub returns-then-e-eq0 : goal.returns-then-e-eq0
unfolding fill_end
returns-then-e-eq0 c = simp (eq-eqb _ _ c.if-e-eq0.true)

pub returns-then-o-e : goal.returns-then-o-e
unfolding fill_end
returns-then-o-e c = simp (ne_eqb _ _ c.if-e-eq0.false, le-ltb (c.args.e + 1) c.args.o (omega arith))

pub returns-then-e-o : goal.returns-then-e-o
unfolding fill_end
returns-then-e-o c = simp (ne_eqb _ _ c.if-e-eq0.false, lt-ltb _ _ c.if-e-o.true)

pub returns-else-e-o : goal.returns-else-e-o
unfolding fill_end
returns-else-e-o c = simp (ne_eqb _ _ c.if-e-eq0.false, le-ltb _ _ c.if-e-o.false)
