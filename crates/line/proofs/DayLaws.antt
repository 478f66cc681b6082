-- Every line of a day: its interval is in the range, it has neither sent nor heard after the latest time, and there is no wait unless it is Live; and
-- its session is one of a day.
use Prim.Native.Nat.{ℕ, ◌≤◌}
use mathlib.Core.Path.{◌≡◌, refl}
use mathlib.Core.Bool.{Bool, true, false, ◌&&◌, and-false}
use mathlib.Core.List.{[]}
use native.Mathlib.Omega.{arith}
use lib.Dec.{eqb}
use Rattle.wire.proofs.TestLaws.{either}
use Rattle.session.specs.declared.day.Made.{Made}
use Rattle.session.specs.declared.state.Session.{Session}
use Rattle.session.specs.declared.state.State.TheVariants.{Live}
use Rattle.session.specs.State.{last, code_number}
use Rattle.session.specs.Day.{fresh, saved, drop, own_number}
use Rattle.session.specs.Course as course
use Rattle.session.specs.Course.{Reached}
use Rattle.calls.specs.Steps.{steps, report_of}
use Rattle.calls.proofs.CallLaws.{call-keeps}
use Rattle.line.specs.declared.line.Line.{Line}
use Rattle.line.specs.declared.line.LineCode.{LineCode}
use Rattle.line.specs.declared.line.LineMade.{LineMade}
use Rattle.line.specs.declared.tick.Own.{Own}
use Rattle.line.specs.declared.tick.Own.TheVariants as own
use Rattle.line.specs.declared.tick.Ticked.{Ticked}
use Rattle.line.specs.Line.{
  least_interval,
  is_interval,
  quiet_line,
  not_a_line,
  line_of,
  fresh_line,
  saved_line,
  goes_on,
  wait_since,
  moved_line,
  connect_line,
  drop_line,
  step_line,
  steps_line,
}
use Rattle.line.specs.Tick.{timed, tested_line, tick}
use Rattle.line.specs.Course.{
  Happening,
  connects,
  drops,
  lends,
  many,
  ticks,
  after_line,
  ReachedLine,
  begun,
  resumed,
  on,
  Stands,
  sent_line,
  Acted,
  nothing,
  down,
  test-request,
  heartbeat,
  no_number,
  Turns,
  same,
  by-drop,
  by_number,
}
use Rattle.line.proofs.TickLaws.{later-least, other-state, own-state, acted, tick-session}

-- a wait that goes on began no later than n, and one that starts begins then
since-least : (a b : Bool) (n since : ℕ) → since ≤ n → wait_since a b n since ≤ n
unfolding wait_since
since-least a b n since h =
    either (λ (x : ℕ). x ≤ n) a (λ u. h) (λ u. either (λ (x : ℕ). x ≤ n) b (λ v. omega arith) (λ v. omega arith))

-- where it is not Live there is none
no-wait : (a b ended : Bool) (n since : ℕ) → b ≡ false → wait_since (goes_on a b ended) b n since ≡ 0
unfolding wait_since goes_on
no-wait a b ended n since e = rw (e, and-false a)

no_test : (a b ended tested : Bool) → b ≡ false → goes_on a b ended && tested ≡ false
unfolding goes_on
no_test a b ended tested e = rw (e, and-false a)

-- a line with another session at a later time
pub moved-stands : (l : Line) (t : ℕ) (s : Session) (h x : Bool) → Stands l → Stands (moved_line l t s h x)
unfolding moved_line
moved-stands l t s h x k =
    let n = later-least l.now t in
    record {
      interval = k.interval;
      sent = since-least _ _ _ l.sent (omega (arith, k.sent));
      heard = since-least _ _ _ l.heard (omega (arith, k.heard));
      rests = λ e. (no-wait _ _ x _ l.sent e, no-wait _ _ h _ l.heard e, no_test _ _ h l.tested e);
    }

-- one that only the clock moves
timed-stands : (l : Line) (t : ℕ) → Stands l → Stands (timed l t)
unfolding timed
timed-stands l t k =
    let n = later-least l.now t in
    record { interval = k.interval; sent = omega (arith, k.sent); heard = omega (arith, k.heard); rests = k.rests }

-- and a Live one that has sent a message
tested-stands : (x : Own) (l : Line) → l.session.state ≡ Live → Stands l → Stands (tested_line x l)
unfolding tested_line
tested-stands x l e k = record {
  interval = k.interval;
  sent = k.sent;
  heard = k.heard;
  rests = λ f. absurd (other-state l.session.state f e);
}

sent-stands : (x : Own) (l : Line) (t : ℕ) → l.session.state ≡ Live → (l.session.own ≡ last → ⊥) → Stands l → Stands (sent_line x l t)
unfolding moved_line
sent-stands x l t e o k = tested-stands x _ (own-state l.session e o) (moved-stands l t (own_number l.session).session false true k)

tick-stands : (l : Line) (t : ℕ) → Stands l → Stands (tick l t).line
unfolding drop_line
tick-stands l t k = go (tick l t) (acted l t)
  where
    go : (x : Ticked) → Acted l t x → Stands x.line
    go x (nothing q) = timed-stands l t k
    go x (down e d) = moved-stands l t (drop l.session) false false k
    go x (test-request e f g u o) = sent-stands own.TestRequest l t e o k
    go x (heartbeat e f u b o) = sent-stands own.Heartbeat l t e o k
    go x (no_number e f g o) = moved-stands l t (drop l.session) false false k

-- whatever happens keeps it so
pub stands-kept : (l : Line) (h : Happening) → Stands l → Stands (after_line l h)
unfolding after_line connect_line drop_line step_line steps_line
stands-kept l (connects t password) k = moved-stands l t _ false false k
stands-kept l (drops t) k = moved-stands l t _ false false k
stands-kept l (lends t b) k = moved-stands l t _ _ _ k
stands-kept l (many t b r q) k = moved-stands l t _ _ _ k
stands-kept l (ticks t) k = tick-stands l t k

quiet-stands : (s : Session) (interval : ℕ) → is_interval interval ≡ true → Stands (quiet_line s interval)
quiet-stands s interval e = record { interval = e; sent = omega arith; heard = omega arith; rests = λ f. (refl, refl, refl) }

refused-stands : (k : LineCode) → Stands (not_a_line k).line
unfolding not_a_line is_interval
refused-stands k = quiet-stands _ least_interval refl

pub made-stands : (made : Made) (interval : ℕ) → Stands (line_of made interval).line
unfolding line_of
made-stands made interval =
    let P : LineMade → Type 0 = λ r. Stands r.line in
    either P (eqb (code_number made.code) 0)
    (λ u. either P (is_interval interval) (λ v. quiet-stands made.session interval v) (λ v. refused-stands _))
    (λ u. refused-stands _)

-- so every line of a day stands so
pub all-stand : {l : Line} → ReachedLine l → Stands l
unfolding fresh_line saved_line
all-stand (begun comp_id interval) = made-stands (fresh comp_id) interval
all-stand (resumed comp_id interval {e = e} {o = o} a b) = made-stands (saved comp_id e o) interval
all-stand (on {l = l} r h) = stands-kept l h (all-stand r)

turns-reached : {s t : Session} → Turns s t → Reached s → Reached t
turns-reached same r = r
turns-reached by-drop r = course.on r course.dropped
turns-reached by_number r = course.on r course.numbered

-- a session of a day is left by what happens to its line
pub reached-kept : (l : Line) (h : Happening) → Reached l.session → Reached (after_line l h).session
unfolding after_line connect_line drop_line step_line steps_line moved_line steps report_of
reached-kept l (connects t password) r = course.on r (course.connected password)
reached-kept l (drops t) r = course.on r course.dropped
reached-kept l (lends t b) r = course.on r (course.stepped b)
reached-kept l (many t b q w) r = call-keeps Reached (λ s b h. course.on h (course.stepped b)) l.session b q w r
reached-kept l (ticks t) r = turns-reached (tick-session l t) r

refused-reached : (k : LineCode) → Reached (not_a_line k).line.session
unfolding not_a_line
refused-reached k = course.begun []

made-reached : (made : Made) (interval : ℕ) → Reached made.session → Reached (line_of made interval).line.session
unfolding line_of
made-reached made interval r =
    let P : LineMade → Type 0 = λ x. Reached x.line.session in
    either P (eqb (code_number made.code) 0) (λ u. either P (is_interval interval) (λ v. r) (λ v. refused-reached _)) (λ u. refused-reached _)

-- and the session of every line of a day is one of a day
pub all-reached : {l : Line} → ReachedLine l → Reached l.session
unfolding fresh_line saved_line
all-reached (begun comp_id interval) = made-reached (fresh comp_id) interval (course.begun comp_id)
all-reached (resumed comp_id interval {e = e} {o = o} a b) = made-reached (saved comp_id e o) interval (course.resumed comp_id a b)
all-reached (on {l = l} r h) = reached-kept l h (all-reached r)
