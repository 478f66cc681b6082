-- `session::day::comp_id_bytes` meets its contract: a good Comp ID fills its twelve bytes.
use mathlib.Core.Path.{refl, ◌∙◌}
use Rattle.session.proofs.ArrivalLaws.{comp-id-taken, fixed-fills}
use Rattle.session.proofs.day.comp_id_bytes.Goals as goal

pub returns : goal.returns
returns c =
    let t = c.args.comp.now in
    c.put_fixed.ensures.1 ∙ fixed-fills _ 12 t _ (comp-id-taken t c.requires) refl
