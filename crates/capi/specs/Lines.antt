-- A line with a clock (document 02, item 2), as C sees it: a struct that is checked on every call, and what each call answers.
use Rattle.std.specs.Prelude.{ℕ, Bool, cond, ◌&&◌, ◌≡◌, List, eqb, length, Option, Some, None}
use Rattle.session.specs.Held.{state_at, held}
use Rattle.session.specs.State.{code_number, code_besides, row_none, send_none}
use Rattle.calls.specs.Steps.{rows_after, sends_after}
use Rattle.line.specs.declared.line.Line.{Line}
use Rattle.line.specs.declared.line.LineConnected.{LineConnected}
use Rattle.line.specs.declared.line.LineDone.{LineDone}
use Rattle.line.specs.declared.line.LineMade.{LineMade}
use Rattle.line.specs.declared.line.LineStepped.{LineStepped}
use Rattle.line.specs.declared.tick.Act.{Act}
use Rattle.line.specs.declared.tick.Act.TheVariants as act
use Rattle.line.specs.declared.tick.Ticked.{Ticked}
use Rattle.line.specs.Line.{line_number, fresh_line, saved_line, is_live, connect_line, drop_line, step_line, steps_line, is_held_line, held_line}
use Rattle.line.specs.Tick.{tick, next_tick}
use Rattle.capi.specs.declared.shape.CLine.{CLine}
use Rattle.capi.specs.declared.shape.CLineConnected.{CLineConnected}
use Rattle.capi.specs.declared.shape.CLineDone.{CLineDone}
use Rattle.capi.specs.declared.shape.CLineMade.{CLineMade}
use Rattle.capi.specs.declared.shape.CLineStepped.{CLineStepped}
use Rattle.capi.specs.declared.shape.CNextTick.{CNextTick}
use Rattle.capi.specs.declared.shape.CSend.{CSend}
use Rattle.capi.specs.declared.shape.CSession.{CSession}
use Rattle.capi.specs.declared.shape.CTicked.{CTicked}
use Rattle.capi.specs.Sessions.{shown_session, session_in, is_session, not_a_session, to_send, shown_send, shown_row, used_by, send_test_request, send_bare_heartbeat}
use Rattle.capi.specs.Steps.{ended_in}

abbrev pub shown_line : Line → CLine
shown_line l = record {
  session = shown_session l.session;
  interval = l.interval;
  tested = cond l.tested 1 0;
  now = l.now;
  sent = l.sent;
  heard = l.heard;
}

abbrev pub line_in : CLine → Line
line_in c = record {
  session = session_in c.session;
  interval = c.interval;
  now = c.now;
  sent = c.sent;
  heard = c.heard;
  tested = eqb c.tested 1;
}

-- what is taken in: the line, or 90
abbrev pub held_in : CLine → LineMade
held_in c =
    let s : CSession = c.session in
    held_line (held s.state s.ours s.expected s.own s.ahead s.repeats) c.interval c.tested c.now c.sent c.heard

-- whether it is taken in
unfoldable pub is_line : CLine → Bool
is_line c = is_session c.session && is_held_line (is_live (state_at c.session.state)) c.interval c.tested c.now c.sent c.heard

-- a fresh or a saved day
abbrev pub line_made : ℕ → CLine → CLineMade
line_made refusal c = record { refusal = refusal; line = c }

unfoldable pub shown_line_made : LineMade → CLineMade
shown_line_made m = line_made (line_number m.code) (shown_line m.line)

unfoldable pub fresh_line_c : List ℕ → ℕ → CLineMade
fresh_line_c comp_id interval = shown_line_made (fresh_line comp_id interval)

unfoldable pub saved_line_c : List ℕ → ℕ → ℕ → ℕ → CLineMade
saved_line_c comp_id e o interval = shown_line_made (saved_line comp_id e o interval)

-- Connect
unfoldable pub shown_line_connected : LineConnected → CLineConnected
shown_line_connected x = record {
  refusal = code_number x.code;
  line = shown_line x.line;
  number = x.number;
  next = x.next;
  besides = code_besides x.code;
}

unfoldable pub connect_line_c : CLine → ℕ → List ℕ → CLineConnected
connect_line_c c t password =
    cond (is_line c)
    (shown_line_connected (connect_line (line_in c) t password))
    (record { refusal = not_a_session; line = c; number = 0; next = 0; besides = 0 })

-- Drop
unfoldable pub drop_line_c : CLine → ℕ → CLineMade
drop_line_c c t = cond (is_line c) (line_made 0 (shown_line (drop_line (line_in c) t))) (line_made not_a_session c)

-- a step
unfoldable pub shown_line_stepped : ℕ → LineStepped → CLineStepped
shown_line_stepped used x = record {
  refusal = code_number x.answer.code;
  line = shown_line x.line;
  first = shown_send x.answer.first;
  second = shown_send x.answer.second;
  row = shown_row x.answer.row;
  used = used;
  besides = code_besides x.answer.code;
}

abbrev pub no_send : CSend
no_send = to_send send_none 0 0 0

abbrev pub not_stepped_line : CLine → CLineStepped
not_stepped_line c = record {
  refusal = not_a_session;
  line = c;
  first = no_send;
  second = no_send;
  row = record { kind = row_none; first = 0; last = 0 };
  used = 0;
  besides = 0;
}

unfoldable pub step_line_c : CLine → ℕ → List ℕ → CLineStepped
step_line_c c t s = cond (is_line c) (shown_line_stepped (used_by c.session.state s) (step_line (line_in c) t s)) (not_stepped_line c)

-- many messages in one call, for lists of r and q numbers
unfoldable pub shown_line_done : LineDone → CLineDone
shown_line_done x = record {
  refusal = code_number x.code;
  line = shown_line x.line;
  used = x.used;
  rows = x.rows;
  sends = x.sends;
  ended = (ended_in x.ended).0;
  code = (ended_in x.ended).1;
  besides = (ended_in x.ended).2;
}

unfoldable pub steps_line_c : CLine → ℕ → List ℕ → ℕ → ℕ → CLineDone
steps_line_c c t s r q =
    cond (is_line c)
    (shown_line_done (steps_line (line_in c) t s r q))
    (record { refusal = not_a_session; line = c; used = 0; rows = 0; sends = 0; ended = 0; code = 0; besides = 0 })

-- and the lists afterwards
unfoldable pub rows_line_c : CLine → List ℕ → List ℕ → List ℕ → List ℕ
rows_line_c c s rows sends = cond (is_line c) (rows_after (line_in c).session s rows sends) rows

unfoldable pub sends_line_c : CLine → List ℕ → List ℕ → List ℕ → List ℕ
sends_line_c c s rows sends = cond (is_line c) (sends_after (line_in c).session s rows sends) sends

-- a call: its report r, and the lists d and e afterwards
abbrev pub TakesLineC : CLine → ℕ → List ℕ → List ℕ → List ℕ → CLineDone → List ℕ → List ℕ → Type 0
TakesLineC c t s d e r d' e' = (r ≡ steps_line_c c t s (length d) (length e)) × (d' ≡ rows_line_c c s d e) × (e' ≡ sends_line_c c s d e)

-- a tick: what it did in numbers, and its message to send
unfoldable pub act_number : Option Act → ℕ
act_number None = 0
act_number (Some act.Down) = 1
act_number (Some (act.TestRequest n id)) = 2
act_number (Some (act.Heartbeat n)) = 3

unfoldable pub act_send : Option Act → CSend
act_send None = no_send
act_send (Some act.Down) = no_send
act_send (Some (act.TestRequest n id)) = to_send send_test_request n id 0
act_send (Some (act.Heartbeat n)) = to_send send_bare_heartbeat n 0 0

unfoldable pub shown_ticked : Ticked → CTicked
shown_ticked x = record { refusal = code_number x.code; act = act_number x.act; line = shown_line x.line; send = act_send x.act }

unfoldable pub tick_c : CLine → ℕ → CTicked
tick_c c t =
    cond (is_line c) (shown_ticked (tick (line_in c) t)) (record { refusal = not_a_session; act = act_number None; line = c; send = no_send })

-- when the next one is due
unfoldable pub shown_next : Option ℕ → CNextTick
shown_next (Some t) = record { refusal = 0; due = 1; time = t }
shown_next None = record { refusal = 0; due = 0; time = 0 }

unfoldable pub next_tick_c : CLine → CNextTick
next_tick_c c = cond (is_line c) (shown_next (next_tick (line_in c))) (record { refusal = not_a_session; due = 0; time = 0 })
