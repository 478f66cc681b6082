-- The messages to send in the list that a call of many fills, as C reads them: four numbers each.
use Rattle.std.specs.Prelude.{ℕ, ◌*◌, List, get_or, drop}
use Rattle.calls.specs.Steps.{a_send}
use Rattle.capi.specs.declared.shape.CSend.{CSend}
use Rattle.capi.specs.Sessions.{to_send}

-- the one at the front
unfoldable pub send_front : List ℕ → CSend
send_front d = to_send (get_or d 0 0) (get_or d 1 0) (get_or d 2 0) (get_or d 3 0)

-- number k, counted from 0
unfoldable pub send_at : List ℕ → ℕ → CSend
send_at d k = send_front (drop (a_send * k) d)
