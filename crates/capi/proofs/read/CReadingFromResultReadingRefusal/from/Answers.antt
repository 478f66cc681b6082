-- `capi::read::CReadingFromResultReadingRefusal::from` meets its contract: a reading's values, or its refusal's number and what is returned besides.
use Rattle.capi.specs.Reading.{shown_reading}
use Rattle.capi.proofs.read.CReadingFromResultReadingRefusal.from.Goals as goal

pub returns-in-Ok : goal.returns-in-Ok
unfolding shown_reading
returns-in-Ok c = simp c.in-Ok.is

pub returns-in-Err : goal.returns-in-Err
unfolding shown_reading
returns-in-Err c = simp (c.besides.ensures, c.number.ensures, c.in-Err.is)
