-- `capi::read::fields_c` meets its contract: what the list's call answers decides.
use mathlib.Core.Path.{sym, ◌∙◌}
use Rattle.capi.specs.Reading.{shown_listed}
use Rattle.capi.proofs.read.fields_c.Goals as goal

pub returns-in-Ok : goal.returns-in-Ok
unfolding shown_listed
returns-in-Ok c =
    let l = c.list_fields.ensures in
    (simp (c.from.ensures, sym l.value ∙ c.in-Ok.is), l.d_after)

pub returns-in-Err : goal.returns-in-Err
unfolding shown_listed
returns-in-Err c =
    let l = c.list_fields.ensures in
    (simp (c.from-in-Err.ensures, sym l.value ∙ c.in-Err.is), l.d_after)
