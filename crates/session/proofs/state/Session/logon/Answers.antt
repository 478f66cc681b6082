-- `session::state::Session::logon` meets its contract: the tests of rule 2 in order.
use borrow.Author.Tests.{lt-ltb, le-ltb, eq-eqb, ne_eqb}
use Rattle.session.specs.Rules.{logon}
use Rattle.session.proofs.state.Session.logon.Goals as goal
use Rattle.session.proofs.state.Session.logon.Goals.{then-next-eq0-via-then-next-eq0, then-next-eq0-via-else-next-eq0+then-o-next}

pub returns-then-n-e : goal.returns-then-n-e
unfolding logon
returns-then-n-e c = simp (c.stop.ensures, lt-ltb _ _ c.if-n-e.true)

pub returns-then-next-eq0 : goal.returns-then-next-eq0
unfolding logon
returns-then-next-eq0 c =
    let first = le-ltb _ _ c.if-n-e.false in
    elim c.then-next-eq0.branch [
      | then-next-eq0-via-then-next-eq0 w ↦ simp (c.stop-then-next-eq0.ensures, first, eq-eqb _ _ w.if-next-eq0.true)
      | then-next-eq0-via-else-next-eq0+then-o-next w ↦ simp (c.stop-then-next-eq0.ensures, first, ne_eqb _ _ w.if-next-eq0.false, lt-ltb _ _ w.if-o-next.true)
    ]

pub returns-then-e-n : goal.returns-then-e-n
unfolding logon
returns-then-e-n c =
    simp (c.answers.ensures, c.moved.ensures, c.fill_to-fill.ensures, le-ltb _ _ c.if-n-e.false, ne_eqb _ _ c.if-next-eq0.false, le-ltb _ _ c.if-o-next.false, lt-ltb _ _ c.if-e-n.true)

pub returns-then-n-eq-LAST : goal.returns-then-n-eq-LAST
unfolding logon
returns-then-n-eq-LAST c =
    simp (c.stop-then-n-eq-LAST.ensures, le-ltb _ _ c.if-n-e.false, ne_eqb _ _ c.if-next-eq0.false, le-ltb _ _ c.if-o-next.false, le-ltb _ _ c.if-e-n.false, eq-eqb _ _ c.if-n-eq-LAST.true)

pub returns : goal.returns
unfolding logon
returns c =
    simp (c.take.ensures, c.fill_to-fill.ensures, le-ltb _ _ c.if-n-e.false, ne_eqb _ _ c.if-next-eq0.false, le-ltb _ _ c.if-o-next.false, le-ltb _ _ c.if-e-n.false, ne_eqb _ _ c.if-n-eq-LAST.false)
