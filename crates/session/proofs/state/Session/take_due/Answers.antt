-- `session::state::Session::take_due` meets its contract: a length that is not 0 is that of business in its turn.
use mathlib.Core.Path.{sym}
use borrow.Author.Tests.{eq-eqb, ne_eqb}
use Rattle.session.specs.Turn.{take_due}
use Rattle.session.proofs.TurnLaws.{is-due}
use Rattle.session.proofs.state.Session.take_due.Goals as goal

pub returns-then-length-eq0 : goal.returns-then-length-eq0
unfolding take_due
returns-then-length-eq0 c = simp (sym c.due_length-length.ensures, eq-eqb _ 0 c.if-length-eq0.true)

pub due_taken-requires : goal.due_taken-requires
due_taken-requires c =
    (is-due c.args.self c.args.s.now c.args.reading c.due_length-length.result c.due_length-length.ensures c.if-length-eq0.false).more

pub returns : goal.returns
unfolding take_due
returns c =
    simp (c.due_taken.ensures, sym c.due_length-length.ensures, ne_eqb _ 0 c.if-length-eq0.false)
