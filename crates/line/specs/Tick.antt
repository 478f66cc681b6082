-- Document 02, item 2: tick, the one call that acts, and when the next one is due.
use Rattle.std.specs.Prelude.{ℕ, ◌+◌, ◌*◌, ◌%◌, Bool, true, false, cond, not, ◌&&◌, ◌||◌, eqb, leb, ltb, Option, Some, None}
use Rattle.session.specs.declared.day.Owned.{Owned}
use Rattle.session.specs.declared.state.Fault.{Fault}
use Rattle.session.specs.Day.{own_number}
use Rattle.session.specs.State.{most_id, code_number}
use Rattle.line.specs.declared.line.Line.{Line}
use Rattle.line.specs.declared.tick.Act.{Act}
use Rattle.line.specs.declared.tick.Act.TheVariants as act
use Rattle.line.specs.declared.tick.Due.{Due}
use Rattle.line.specs.declared.tick.Due.TheVariants as due
use Rattle.line.specs.declared.tick.Own.{Own}
use Rattle.line.specs.declared.tick.Own.TheVariants as own
use Rattle.line.specs.declared.tick.Ticked.{Ticked}
use Rattle.line.specs.Line.{later, is_live, moved_line, drop_line}

-- milliseconds of a second
abbrev pub second : ℕ
second = 1000

-- how many intervals without hearing bring a Test Request, and Down
abbrev pub to_test_request : ℕ
to_test_request = 2

abbrev pub to_down : ℕ
to_down = 3

-- an interval in milliseconds
unfoldable pub wait : Line → ℕ
wait l = l.interval * second

-- a wait is over once its time is reached
unfoldable pub reached : ℕ → ℕ → ℕ → Bool
reached since w n = leb (since + w) n

-- what is due at the time n, the first of three: Down after three intervals without hearing; a Test Request after two, if this silence has had none; a
-- Heartbeat after one without sending
unfoldable pub due_by : Bool → Bool → Bool → Option Due
due_by down test beat = cond down (Some due.Down) (cond test (Some (due.Message own.TestRequest)) (cond beat (Some (due.Message own.Heartbeat)) None))

unfoldable pub due_live : Line → ℕ → Option Due
due_live l n =
    due_by (reached l.heard (to_down * wait l) n) (reached l.heard (to_test_request * wait l) n && not l.tested) (reached l.sent (wait l) n)

-- only Live is timed
unfoldable pub due_at : Line → ℕ → Option Due
due_at l n = cond (is_live l.session.state) (due_live l n) None

-- nothing but the latest time
unfoldable pub timed : Line → ℕ → Line
timed l t = record {
  session = l.session;
  interval = l.interval;
  now = later l.now t;
  sent = l.sent;
  heard = l.heard;
  tested = l.tested;
}

-- this silence has had its Test Request, if this message is one
unfoldable pub is_test : Own → Bool
is_test own.TestRequest = true
is_test own.Heartbeat = false

unfoldable pub tested_line : Own → Line → Line
tested_line x l = record {
  session = l.session;
  interval = l.interval;
  now = l.now;
  sent = l.sent;
  heard = l.heard;
  tested = is_test x || l.tested;
}

abbrev pub says : Line → Option Fault → Option Act → Ticked
says l code x = record { line = l; code = code; act = x }

-- a message with a number of ours: a Test Request, whose ID is that number modulo 65,536, or a Heartbeat without ID; 22 where there is no number
unfoldable pub id_of : ℕ → ℕ
id_of n = n % (most_id + 1)

unfoldable pub own_act : Own → ℕ → Act
own_act own.TestRequest n = act.TestRequest n (id_of n)
own_act own.Heartbeat n = act.Heartbeat n

unfoldable pub numbered : Own → Line → ℕ → Owned → Ticked
numbered x l t o =
    cond (eqb (code_number o.code) 0)
    (says (tested_line x (moved_line l t o.session false true)) None (Some (own_act x o.number)))
    (says (moved_line l t o.session false false) o.code None)

-- at most one of the three; Down is a dropped line
unfoldable pub tick_by : Option Due → Line → ℕ → Ticked
tick_by None l t = says (timed l t) None None
tick_by (Some due.Down) l t = says (drop_line l t) None (Some act.Down)
tick_by (Some (due.Message x)) l t = numbered x l t (own_number l.session)

unfoldable pub tick : Line → ℕ → Ticked
tick l t = tick_by (due_at l (later l.now t)) l t

-- a time has 64 bits
abbrev pub most_time : ℕ
most_time = 18446744073709551615

unfoldable pub at_time : ℕ → Option ℕ
at_time t = cond (leb t most_time) (Some t) None

unfoldable pub earlier : Option ℕ → Option ℕ → Option ℕ
earlier (Some a) (Some b) = Some (cond (ltb b a) b a)
earlier (Some a) None = Some a
earlier None x = x

unfoldable pub not_before : ℕ → Option ℕ → Option ℕ
not_before n (Some t) = Some (later n t)
not_before n None = None

-- of a silence its Test Request is next, and Down where it has had one
unfoldable pub silence_due : Line → ℕ
silence_due l = l.heard + cond l.tested to_down to_test_request * wait l

-- when the next tick is due: the earliest time, not before the latest given, at which tick would act, or answer 22; none where the line is not Live, or
-- past 64 bits
unfoldable pub next_tick : Line → Option ℕ
next_tick l = cond (is_live l.session.state) (not_before l.now (earlier (at_time (silence_due l)) (at_time (l.sent + wait l)))) None
