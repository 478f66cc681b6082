-- Many messages in one call (document 02, item 1), as C sees it.
use Rattle.std.specs.Prelude.{ℕ, cond, ◌≡◌, List, length}
use Rattle.calls.specs.declared.Done.{Done}
use Rattle.calls.specs.declared.Ended.{Ended}
use Rattle.calls.specs.declared.Ended.TheVariants.{Short, Down, NoSlot}
use Rattle.session.specs.State.{code_number, code_besides}
use Rattle.calls.specs.Steps.{steps, rows_after, sends_after}
use Rattle.capi.specs.declared.shape.CDone.{CDone}
use Rattle.capi.specs.declared.shape.CSession.{CSession}
use Rattle.capi.specs.Sessions.{shown_session, session_in, is_session, not_a_session}

-- why a call ended, in numbers: the reason, Down's code, and what comes besides: the bytes that Short needs, or what the reader returned with that code
unfoldable pub ended_in : Ended → ℕ × ℕ × ℕ
ended_in (Short n) = (1, 0, n)
ended_in (Down k) = (2, code_number k, code_besides k)
ended_in NoSlot = (3, 0, 0)

unfoldable pub shown_done : Done → CDone
shown_done x = record {
  refusal = code_number x.code;
  session = shown_session x.session;
  used = x.used;
  rows = x.rows;
  sends = x.sends;
  ended = (ended_in x.ended).0;
  code = (ended_in x.ended).1;
  besides = (ended_in x.ended).2;
}

-- for lists of r and q numbers
unfoldable pub steps_c : CSession → List ℕ → ℕ → ℕ → CDone
steps_c c s r q =
    cond (is_session c)
    (shown_done (steps (session_in c) s r q))
    (record { refusal = not_a_session; session = c; used = 0; rows = 0; sends = 0; ended = 0; code = 0; besides = 0 })

-- and the lists afterwards
unfoldable pub rows_c : CSession → List ℕ → List ℕ → List ℕ → List ℕ
rows_c c s rows sends = cond (is_session c) (rows_after (session_in c) s rows sends) rows

unfoldable pub sends_c : CSession → List ℕ → List ℕ → List ℕ → List ℕ
sends_c c s rows sends = cond (is_session c) (sends_after (session_in c) s rows sends) sends

-- a call: its report r, and the lists d and e afterwards
abbrev pub TakesC : CSession → List ℕ → List ℕ → List ℕ → CDone → List ℕ → List ℕ → Type 0
TakesC c s d e r d' e' = (r ≡ steps_c c s (length d) (length e)) × (d' ≡ rows_c c s d e) × (e' ≡ sends_c c s d e)
