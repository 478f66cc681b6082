-- A line with a clock (document 02, item 2): the calls that a session has, each at a time in milliseconds.
use Rattle.std.specs.Prelude.{ℕ, Bool, true, false, cond, not, ◌&&◌, ◌||◌, ◌≡◌, List, [], eqb, leb, ltb, length, Some}
use Rattle.session.specs.declared.day.Connected.{Connected}
use Rattle.session.specs.declared.day.Made.{Made}
use Rattle.session.specs.declared.state.Fault.TheVariants.{Halted}
use Rattle.session.specs.declared.state.Halt.TheVariants.{NotASession}
use Rattle.session.specs.declared.state.Send.{Send}
use Rattle.session.specs.declared.state.Session.{Session}
use Rattle.session.specs.declared.state.State.{State}
use Rattle.session.specs.declared.state.State.TheVariants.{Down, Waiting, Live}
use Rattle.session.specs.declared.state.Stepped.{Stepped}
use Rattle.session.specs.Day.{fresh, saved, connect, drop, step}
use Rattle.session.specs.State.{code_number, send_none, told}
use Rattle.calls.specs.declared.Done.{Done}
use Rattle.calls.specs.Steps.{is_heard, steps, rows_after, sends_after}
use Rattle.line.specs.declared.line.Line.{Line}
use Rattle.line.specs.declared.line.LineCode.{LineCode}
use Rattle.line.specs.declared.line.LineCode.TheVariants.{Day, BadInterval}
use Rattle.line.specs.declared.line.LineConnected.{LineConnected}
use Rattle.line.specs.declared.line.LineDone.{LineDone}
use Rattle.line.specs.declared.line.LineMade.{LineMade}
use Rattle.line.specs.declared.line.LineStepped.{LineStepped}

-- an interval is 1 to 60 seconds
abbrev pub least_interval : ℕ
least_interval = 1

abbrev pub most_interval : ℕ
most_interval = 60

unfoldable pub is_interval : ℕ → Bool
is_interval interval = leb least_interval interval && leb interval most_interval

-- 24 for an interval outside the range; 0 if nothing was refused
unfoldable pub line_number : LineCode → ℕ
line_number (Day k) = code_number k
line_number BadInterval = 24

-- a line at time 0: no session is Live that has just been made
abbrev pub quiet_line : Session → ℕ → Line
quiet_line s interval = record { session = s; interval = interval; now = 0; sent = 0; heard = 0; tested = false }

-- a refusal, beside a line that no message is for
unfoldable pub not_a_line : LineCode → LineMade
not_a_line k = record { code = k; line = quiet_line (fresh []).session least_interval }

-- from a fresh or a saved day: 24 comes after the refusals of the day itself
unfoldable pub line_of : Made → ℕ → LineMade
line_of made interval =
    cond (eqb (code_number made.code) 0) (
    cond (is_interval interval) (record { code = Day made.code; line = quiet_line made.session interval })
    (not_a_line BadInterval))
    (not_a_line (Day made.code))

unfoldable pub fresh_line : List ℕ → ℕ → LineMade
fresh_line comp_id interval = line_of (fresh comp_id) interval

unfoldable pub saved_line : List ℕ → ℕ → ℕ → ℕ → LineMade
saved_line comp_id e o interval = line_of (saved comp_id e o) interval

-- a time earlier than the latest given counts as that latest
unfoldable pub later : ℕ → ℕ → ℕ
later now t = cond (ltb t now) now t

-- only Live is timed
unfoldable pub is_live : State → Bool
is_live Down = false
is_live Waiting = false
is_live Live = true

-- a wait goes on where the session was Live and stays so, and nothing ended it; both start when Live begins; where it is not Live there is none
unfoldable pub goes_on : Bool → Bool → Bool → Bool
goes_on before after ended = before && (after && not ended)

unfoldable pub wait_since : Bool → Bool → ℕ → ℕ → ℕ
wait_since goes live n since = cond goes since (cond live n 0)

-- the line at time t with another session: what was heard ends the silence, and what was sent the wait for a Heartbeat
unfoldable pub moved_line : Line → ℕ → Session → Bool → Bool → Line
moved_line l t s heard sent =
    let before : Bool = is_live l.session.state in
    let after : Bool = is_live s.state in
    let n : ℕ = later l.now t in
    record {
      session = s;
      interval = l.interval;
      now = n;
      sent = wait_since (goes_on before after sent) after n l.sent;
      heard = wait_since (goes_on before after heard) after n l.heard;
      tested = goes_on before after heard && l.tested;
    }

-- Connect and Drop
unfoldable pub connect_line : Line → ℕ → List ℕ → LineConnected
connect_line l t password = let x : Connected = connect l.session password in record {
  line = moved_line l t x.session false false;
  code = x.code;
  number = x.number;
  next = x.next;
}

unfoldable pub drop_line : Line → ℕ → Line
drop_line l t = moved_line l t (drop l.session) false false

-- a step: heard is any answer but the reader's 1 to 4, sent any message to send, gap fills too
unfoldable pub is_any : Send → Bool
is_any x = not (eqb (told x).kind send_none)

abbrev pub stepped_line : Line → ℕ → Stepped → LineStepped
stepped_line l t x = record {
  line = moved_line l t x.session (is_heard x.answer.code) (is_any x.answer.first || is_any x.answer.second);
  answer = x.answer;
}

unfoldable pub step_line : Line → ℕ → List ℕ → LineStepped
step_line l t bytes = stepped_line l t (step l.session bytes)

-- many messages in one call, for lists of r and q numbers: a call that is refused sends nothing
unfoldable pub is_sending : Done → Bool
is_sending x = eqb (code_number x.code) 0 && not (eqb x.sends 0)

unfoldable pub steps_line : Line → ℕ → List ℕ → ℕ → ℕ → LineDone
steps_line l t bytes r q = let x : Done = steps l.session bytes r q in record {
  line = moved_line l t x.session x.heard (is_sending x);
  code = x.code;
  used = x.used;
  rows = x.rows;
  sends = x.sends;
  ended = x.ended;
}

-- its report r, and the lists d and e afterwards
abbrev pub LaysLine : Line → ℕ → List ℕ → List ℕ → List ℕ → LineDone → List ℕ → List ℕ → Type 0
LaysLine l t bytes d e r d' e' =
    (r ≡ steps_line l t bytes (length d) (length e)) × (d' ≡ rows_after l.session bytes d e) × (e' ≡ sends_after l.session bytes d e)

-- a line told in numbers (docs/DECISIONS.md, 76): its session is taken in, the interval is in the range, it has neither sent nor heard after the
-- latest time, and there is no wait unless it is Live
unfoldable pub is_held_line : Bool → ℕ → ℕ → ℕ → ℕ → ℕ → Bool
is_held_line live interval tested now sent heard =
    is_interval interval && leb tested 1 && leb sent now && leb heard now && (live || (eqb tested 0 && eqb sent 0 && eqb heard 0))

unfoldable pub held_line : Made → ℕ → ℕ → ℕ → ℕ → ℕ → LineMade
held_line made interval tested now sent heard =
    cond (eqb (code_number made.code) 0 && is_held_line (is_live made.session.state) interval tested now sent heard)
    (record {
      code = Day made.code;
      line = record { session = made.session; interval = interval; now = now; sent = sent; heard = heard; tested = eqb tested 1 };
    })
    (not_a_line (Day (Some (Halted NotASession))))
