-- `plain::higher` meets its contract.
use borrow.Author.Tests.{eq-eqb, ne_eqb, lt-ltb, le-ltb}
use Rattle.plain.specs.Plain.{higher}
use Rattle.plain.proofs.higher.Goals as goal

pub returns-then-m-eq0 : goal.returns-then-m-eq0
unfolding higher
returns-then-m-eq0 c = simp (c.ask.ensures, eq-eqb _ _ c.if-m-eq0.true)

pub returns-then-dup-ne1 : goal.returns-then-dup-ne1
unfolding higher
returns-then-dup-ne1 c = simp (c.tells.ensures, ne_eqb _ _ c.if-m-eq0.false, ne_eqb _ _ c.if-dup-ne1.true)

pub returns-then-repeats-lt-MOST_REPEATS : goal.returns-then-repeats-lt-MOST_REPEATS
unfolding higher
returns-then-repeats-lt-MOST_REPEATS c = simp (c.ask-then-repeats-lt-MOST_REPEATS.ensures, ne_eqb _ _ c.if-m-eq0.false, eq-eqb _ _ c.if-dup-ne1.false, lt-ltb _ _ c.if-repeats-lt-MOST_REPEATS.true)

pub returns-else-repeats-lt-MOST_REPEATS : goal.returns-else-repeats-lt-MOST_REPEATS
unfolding higher
returns-else-repeats-lt-MOST_REPEATS c = simp (c.stop.ensures, ne_eqb _ _ c.if-m-eq0.false, eq-eqb _ _ c.if-dup-ne1.false, le-ltb _ _ c.if-repeats-lt-MOST_REPEATS.false)
