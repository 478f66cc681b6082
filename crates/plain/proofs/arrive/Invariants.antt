-- `plain::arrive` meets its contract: the invariant is that the arrivals passed are walked.
use Rattle.plain.proofs.WalkLaws.{Walked}
use Rattle.plain.proofs.arrive.Given as goal

abbrev pub invariant-loop-a : goal.invariant-loop-a
invariant-loop-a l = Walked l.arrivals l.initial.told l.told l.a-index
