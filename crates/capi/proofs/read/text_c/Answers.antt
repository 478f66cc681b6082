-- `capi::read::text_c` meets its contract: what the search says decides.
use mathlib.Core.Path.{sym, ◌∙◌}
use Rattle.capi.specs.Reading.{text_c, text_by}
use Rattle.capi.proofs.read.text_c.Goals as goal

pub returns-in-Ok : goal.returns-in-Ok
unfolding text_c text_by
returns-in-Ok c =
    simp (c.part.ensures, sym c.find_text.ensures ∙ c.in-Ok.is)

pub returns-in-Err : goal.returns-in-Err
unfolding text_c text_by
returns-in-Err c =
    simp (c.no_part.ensures, sym c.find_text.ensures ∙ c.in-Err.is)
