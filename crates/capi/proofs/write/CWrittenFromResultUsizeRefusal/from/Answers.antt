-- `capi::write::CWrittenFromResultUsizeRefusal::from` meets its contract: each answer's numbers.
use Rattle.capi.specs.Writing.{shown_written}
use Rattle.capi.proofs.write.CWrittenFromResultUsizeRefusal.from.Goals as goal

pub returns-in-Ok : goal.returns-in-Ok
unfolding shown_written
returns-in-Ok c = simp (c.wrote.ensures, c.in-Ok.is)

pub returns-in-Err : goal.returns-in-Err
unfolding shown_written
returns-in-Err c = simp (c.wrote-in-Err.ensures, c.besides.ensures, c.number.ensures, c.in-Err.is)
