-- `capi::read::comp_id_c` meets its contract: what the reader says decides.
use mathlib.Core.Path.{sym, ◌∙◌}
use Rattle.capi.specs.Reading.{comp_id_c, part_by}
use Rattle.capi.proofs.read.comp_id_c.Goals as goal

pub returns-in-Ok : goal.returns-in-Ok
unfolding comp_id_c part_by
returns-in-Ok c = simp (c.part.ensures, c.comp_id_in.ensures, sym c.read.ensures ∙ c.in-Ok.is)

pub returns-in-Err : goal.returns-in-Err
unfolding comp_id_c part_by
returns-in-Err c = simp (c.no_part.ensures, sym c.read.ensures ∙ c.in-Err.is)
