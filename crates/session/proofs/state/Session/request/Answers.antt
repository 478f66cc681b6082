-- `session::state::Session::request` meets its contract: whether a number is left, then the first free slot.
use borrow.Author.Tests.{eq-eqb, ne_eqb}
use Rattle.session.specs.Rules.{request, slots}
use Rattle.session.specs.State.{told}
use Rattle.session.proofs.CaseLaws.{told-any}
use Rattle.session.proofs.state.Session.request.Goals as goal

pub returns-then-o : goal.returns-then-o
unfolding request
returns-then-o c = simp (c.spent.ensures, eq-eqb _ _ c.if-o.true)

pub returns-in-Nothing : goal.returns-in-Nothing
unfolding request slots told
returns-in-Nothing c = simp (c.answers.ensures, c.counted-asked.ensures, ne_eqb _ _ c.if-o.false, c.in-Nothing.is)

pub returns-in_default : goal.returns-in_default
unfolding request slots
returns-in_default c = simp (c.answers-in_default.ensures, c.counted-asked.ensures, ne_eqb _ _ c.if-o.false, told-any _ c.in_default.not-Nothing)
