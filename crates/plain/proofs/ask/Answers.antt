-- `plain::ask` meets its contract.
use borrow.Author.Tests.{eq-eqb, ne_eqb}
use Rattle.plain.specs.Plain.{ask}
use Rattle.plain.proofs.ask.Goals as goal

pub returns-then-o-eq-LAST : goal.returns-then-o-eq-LAST
unfolding ask
returns-then-o-eq-LAST c = simp (c.tells.ensures, eq-eqb _ _ c.if-o-eq-LAST.true)

pub returns : goal.returns
unfolding ask
returns c = simp (c.tells-2.ensures, ne_eqb _ _ c.if-o-eq-LAST.false)
