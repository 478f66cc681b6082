-- `session::state::Session::turned_away` meets its contract: rule 2, by whether the number is due.
use native.Mathlib.Omega.{arith}
use borrow.Author.Tests.{eq-eqb, ne_eqb, ltb-true, le-ltb, lt-ltb}
use Rattle.session.specs.Rules.{turned_away, is_due}
use Rattle.session.proofs.state.Session.turned_away.Goals as goal
use Rattle.session.proofs.state.Session.turned_away.Goals.{else-n-e-via-then-n-e+else-n-lt-LAST, else-n-e-via-else-n-e}

pub overflow_add-n : goal.overflow_add-n
overflow_add-n c = omega (arith, ltb-true)

pub returns-then-n-lt-LAST : goal.returns-then-n-lt-LAST
unfolding turned_away is_due
returns-then-n-lt-LAST c = simp (c.answers.ensures, c.moved.ensures, eq-eqb _ _ c.if-n-e.true, lt-ltb _ _ c.if-n-lt-LAST.true)

pub returns : goal.returns
unfolding turned_away is_due
returns c =
    elim c.else-n-e.branch [
      | else-n-e-via-then-n-e+else-n-lt-LAST w ↦ simp (c.answers-2.ensures, c.moved-2.ensures, eq-eqb _ _ w.if-n-e.true, le-ltb _ _ w.if-n-lt-LAST.false)
      | else-n-e-via-else-n-e w ↦ simp (c.answers-2.ensures, c.moved-2.ensures, ne_eqb _ _ w.if-n-e.false)
    ]
