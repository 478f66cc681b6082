-- `session::state::Session::saved` meets its contract: a number that is 0 is refused first.
use borrow.Author.Tests.{eq-eqb, ne_eqb}
use Rattle.session.specs.Day.{saved}
use Rattle.session.proofs.state.Session.saved.Goals as goal
use Rattle.session.proofs.state.Session.saved.Goals.{then-e-eq0-via-then-e-eq0, then-e-eq0-via-else-e-eq0+then-o-eq0}

pub returns-then-e-eq0 : goal.returns-then-e-eq0
unfolding saved
returns-then-e-eq0 c =
    elim c.then-e-eq0.branch [
      | then-e-eq0-via-then-e-eq0 w ↦ simp (c.not_made.ensures, eq-eqb _ _ w.if-e-eq0.true)
      | then-e-eq0-via-else-e-eq0+then-o-eq0 w ↦ simp (c.not_made.ensures, ne_eqb _ _ w.if-e-eq0.false, eq-eqb _ _ w.if-o-eq0.true)
    ]

pub returns : goal.returns
unfolding saved
returns c = simp (c.day.ensures, ne_eqb _ _ c.if-e-eq0.false, ne_eqb _ _ c.if-o-eq0.false)
