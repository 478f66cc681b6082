-- `session::arrival::sequence_reset` meets its contract.
use mathlib.Core.Path.{sym, ◌∙◌}
use Rattle.session.specs.Arrival.{sequence_reset}
use Rattle.session.proofs.arrival.sequence_reset.Goals as goal

pub returns-then-is_yes : goal.returns-then-is_yes
unfolding sequence_reset
returns-then-is_yes c =
    simp (c.up_to-new.ensures.0, c.value_of.ensures, ← c.value_of-2.ensures, sym c.is_yes.ensures ∙ c.if-is_yes.true)

pub returns-else-is_yes : goal.returns-else-is_yes
unfolding sequence_reset
returns-else-is_yes c =
    simp (c.up_to-new.ensures.0, c.value_of.ensures, ← c.value_of-2.ensures, sym c.is_yes.ensures ∙ c.if-is_yes.false)
