-- `session::arrival::is_ours` meets its contract: the two texts are compared.
use mathlib.Core.Path.{sym, ap, ◌∙◌}
use Rattle.wire.specs.declared.text.Allowed.TheVariants.{Ascii}
use Rattle.wire.specs.Text.{fixed_part}
use Rattle.message.specs.Frame.{comp_id_in}
use Rattle.session.specs.Arrival.{same_bytes, is_ours}
use Rattle.session.proofs.ArrivalLaws.{same_refl}
use Rattle.session.proofs.arrival.is_ours.Goals as goal

pub returns-then-is_same_start : goal.returns-then-is_same_start
unfolding is_ours comp_id_in
returns-then-is_same_start c =
    sym (same_refl _) ∙ ap (same_bytes _) (c.is_same_start.ensures c.if-is_same_start.true ∙ ap (fixed_part Ascii 12) c.comp_bytes_in.ensures)

pub returns : goal.returns
unfolding is_ours
returns c = simp (c.is_same.ensures, c.comp_id_in.ensures, c.fixed_part.ensures)
