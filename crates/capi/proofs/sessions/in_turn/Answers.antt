-- `capi::sessions::in_turn` meets its contract.
use Rattle.session.specs.State.{code_number, code_besides, first_of, last_of, sort_number, told, take}
use Rattle.capi.specs.Sessions.{shown_send, shown_row, shown_stepped}
use Rattle.session.proofs.Effect.{repeats-next}
use Rattle.capi.proofs.sessions.in_turn.Goals as goal

pub returns : goal.returns
unfolding shown_stepped take code_number code_besides shown_send told shown_row sort_number first_of last_of
returns c = simp (c.to_send-2.ensures, c.to_send.ensures, c.ahead_at.ensures, repeats-next)
