-- `calls::run` meets its contract: turn by turn, with what is done at the front of the lists.
use Prim.Native.Nat.{◌-◌}
use lib.ListN.{length}
use Rattle.calls.proofs.GoingLaws.{Gone}
use Rattle.calls.proofs.run.Given as goal

abbrev pub invariant-loop-rest : goal.invariant-loop-rest
invariant-loop-rest l = Gone l.fn.session l.s l.initial.rows l.initial.sends l.rows l.sends l.so_far

abbrev pub decreases-loop-rest : goal.decreases-loop-rest
decreases-loop-rest l = length l.s - l.so_far.used
