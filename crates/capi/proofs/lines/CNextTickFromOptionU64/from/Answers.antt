-- `capi::lines::CNextTickFromOptionU64::from` meets its contract.
use Rattle.capi.specs.Lines.{shown_next}
use Rattle.capi.proofs.lines.CNextTickFromOptionU64.from.Goals as goal

pub returns-in-Some : goal.returns-in-Some
unfolding shown_next
returns-in-Some c = simp c.in-Some.is

pub returns-in-None : goal.returns-in-None
unfolding shown_next
returns-in-None c = simp c.in-None.is
