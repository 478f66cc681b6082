-- `capi::sessions::used_by` meets its contract: a Down session does not look.
use borrow.Author.Tests.{eq-eqb, ne_eqb}
use Rattle.capi.specs.Sessions.{used_by}
use Rattle.capi.proofs.sessions.used_by.Goals as goal

pub returns-then-state-eq-DOWN : goal.returns-then-state-eq-DOWN
unfolding used_by
returns-then-state-eq-DOWN c = simp (eq-eqb _ 0 c.if-state-eq-DOWN.true)

pub returns : goal.returns
unfolding used_by
returns c = simp (ne_eqb _ 0 c.if-state-eq-DOWN.false, c.front_length.ensures)
