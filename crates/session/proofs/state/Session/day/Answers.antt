-- `session::state::Session::day` meets its contract: the Comp ID decides.
use mathlib.Core.Path.{sym, ◌∙◌}
use Rattle.session.specs.Day.{day}
use Rattle.session.proofs.state.Session.day.Goals as goal

pub returns-then-not-is_comp_id : goal.returns-then-not-is_comp_id
unfolding day
returns-then-not-is_comp_id c = simp (c.not_made.ensures, sym c.is_comp_id.ensures ∙ c.if-not-is_comp_id.true)

pub comp_id_bytes-ours-requires : goal.comp_id_bytes-ours-requires
comp_id_bytes-ours-requires c = sym c.is_comp_id.ensures ∙ c.if-not-is_comp_id.false

pub returns : goal.returns
unfolding day
returns c = simp (c.comp_id_bytes-ours.ensures, sym c.is_comp_id.ensures ∙ c.if-not-is_comp_id.false)
