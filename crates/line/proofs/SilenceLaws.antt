-- Whatever happens to a line, its clock does not go back, its interval stays, and from Live it is Live or Down. So a silent line is Down within four
-- intervals of when it last heard, where ticks come at least once an interval.
use Prim.Native.Nat.{ℕ, ◌+◌, ◌*◌, ◌<◌, ◌≤◌}
use mathlib.Core.Path.{◌≡◌, refl, sym, ap, subst, ◌∙◌}
use mathlib.Core.List.{List, [], ◌∷◌}
use native.Mathlib.Omega.{arith}
use Rattle.session.specs.declared.state.Session.{Session}
use Rattle.session.specs.declared.state.State.{State}
use Rattle.session.specs.declared.state.State.TheVariants.{Down, Live}
use Rattle.session.specs.Day.{not_connected, connect_in, connect, drop}
use Rattle.calls.specs.Steps.{steps, report_of}
use Rattle.calls.proofs.CallLaws.{call-keeps}
use Rattle.line.specs.declared.line.Line.{Line}
use Rattle.line.specs.declared.tick.Own.TheVariants as own
use Rattle.line.specs.declared.tick.Ticked.{Ticked}
use Rattle.line.specs.Line.{later, moved_line, connect_line, drop_line, step_line, steps_line}
use Rattle.line.specs.Tick.{second, to_down, wait, timed, tested_line, tick}
use Rattle.line.specs.Course.{
  Happening,
  connects,
  drops,
  lends,
  many,
  ticks,
  after_line,
  after_lines,
  Acted,
  nothing,
  down,
  test-request,
  heartbeat,
  no_number,
  Silent,
  none,
  a-tick,
  other,
  DownBy,
}
use Rattle.line.proofs.TickLaws.{later-least, acted, sent-live, sent-heard, tick-now}
use Rattle.line.proofs.LiveLaws.{LiveOrDown, up, off, step-live-or-down}

-- the clock does not go back
ticks-now : (l : Line) (t : ℕ) → (after_line l (ticks t)).now ≡ later l.now t
unfolding after_line
ticks-now l t = tick-now l t

pub now-rises : (l : Line) (h : Happening) → l.now ≤ (after_line l h).now
unfolding after_line connect_line drop_line step_line steps_line moved_line
now-rises l (connects t password) = later-least l.now t
now-rises l (drops t) = later-least l.now t
now-rises l (lends t b) = later-least l.now t
now-rises l (many t b r q) = later-least l.now t
now-rises l (ticks t) = subst (λ (n : ℕ). l.now ≤ n) (sym (tick-now l t)) (later-least l.now t)

-- the interval stays
tick-interval : (l : Line) (t : ℕ) → (tick l t).line.interval ≡ l.interval
unfolding timed tested_line drop_line moved_line
tick-interval l t = go (tick l t) (acted l t)
  where
    go : (x : Ticked) → Acted l t x → x.line.interval ≡ l.interval
    go x (nothing q) = refl
    go x (down e d) = refl
    go x (test-request e f g u o) = refl
    go x (heartbeat e f u b o) = refl
    go x (no_number e f g o) = refl

pub interval-kept : (l : Line) (h : Happening) → (after_line l h).interval ≡ l.interval
unfolding after_line connect_line drop_line step_line steps_line moved_line
interval-kept l (connects t password) = refl
interval-kept l (drops t) = refl
interval-kept l (lends t b) = refl
interval-kept l (many t b r q) = refl
interval-kept l (ticks t) = tick-interval l t

wait-kept : (l : Line) (h : Happening) → wait (after_line l h) ≡ wait l
unfolding wait
wait-kept l h = ap (λ (n : ℕ). n * second) (interval-kept l h)

-- what a tick leaves of a Live line: Down, or Live with the silence going on, less than three intervals long
data Left (l : Line) (n : ℕ) (k : Line) : Type 0 where
  gone : k.session.state ≡ Down → Left l n k
  silent : k.session.state ≡ Live → k.heard ≡ l.heard → n < l.heard + to_down * wait l → Left l n k

tick-left : (l : Line) (t : ℕ) → l.session.state ≡ Live → Left l (later l.now t) (after_line l (ticks t))
unfolding after_line timed drop_line tested_line moved_line drop
tick-left l t s = go (tick l t) (acted l t)
  where
    go : (x : Ticked) → Acted l t x → Left l (later l.now t) x.line
    go x (nothing q) = silent s refl (q s).down
    go x (down e d) = gone refl
    go x (test-request e f g u o) = silent (sent-live own.TestRequest l t e o) (sent-heard own.TestRequest l t e o) f
    go x (heartbeat e f u b o) = silent (sent-live own.Heartbeat l t e o) (sent-heard own.Heartbeat l t e o) f
    go x (no_number e f g o) = gone refl

-- Connect is refused where it is Live
connect-live : (s : Session) (password : List ℕ) → s.state ≡ Live → (connect s password).session ≡ s
unfolding connect connect_in not_connected
connect-live s password e = ap (λ (p : State). (connect_in p s password).session) e

is_live : {p : State} → p ≡ Live → LiveOrDown p
is_live e = subst LiveOrDown (sym e) up

left_so : {l k : Line} {n : ℕ} → Left l n k → LiveOrDown k.session.state
left_so (gone d) = subst LiveOrDown (sym d) off
left_so (silent e f g) = is_live e

-- whatever happens to a Live line, it stays Live or is Down
pub live-or-down : (l : Line) (h : Happening) → l.session.state ≡ Live → LiveOrDown (after_line l h).session.state
unfolding after_line connect_line drop_line step_line steps_line moved_line steps report_of drop
live-or-down l (connects t password) e =
    subst (λ (s : Session). LiveOrDown s.state) (sym (connect-live l.session password e)) (is_live e)
live-or-down l (drops t) e = off
live-or-down l (lends t b) e = step-live-or-down l.session (is_live e) b
live-or-down l (many t b r q) e =
    call-keeps (λ (s : Session). LiveOrDown s.state) (λ s b h. step-live-or-down s h b) l.session b r q (is_live e)
live-or-down l (ticks t) e = left_so (tick-left l t e)

-- while a tick is to come, it is no later than an interval after the last tick
soon : (w : ℕ) (l : Line) (n : ℕ) (hs : List Happening) (m : ℕ) → Silent w l n hs m → n < m → l.now ≤ n + w
soon w l n hs m none b = absurd (omega arith)
soon w l n hs m (a-tick {t = t} c s) b = omega (arith, later-least l.now t)
soon w l n hs m (other {h = h} {hs = rest} q s) b = omega (arith, now-rises l h, soon w (after_line l h) n rest m s b)

-- Down after the first of these, or after some of the others
down-first : (l : Line) (h : Happening) (hs : List Happening) (m : ℕ) → (after_line l h).session.state ≡ Down → (after_line l h).now ≤ m → DownBy l (h ∷ hs) m
unfolding after_lines
down-first l h hs m d b = record { first = h ∷ []; others = hs; both = refl; down = d; within = b }

down-after : (l : Line) (h : Happening) (hs : List Happening) (m : ℕ) → DownBy (after_line l h) hs m → DownBy l (h ∷ hs) m
unfolding after_lines
down-after l h hs m d = record {
  first = h ∷ d.first;
  others = d.others;
  both = ap (λ (xs : List Happening). h ∷ xs) d.both;
  down = d.down;
  within = d.within;
}

-- a Live line that last heard at the time g, with the interval w: three of them have not passed at the last tick before, and have at the last of these
silence-down : (w g : ℕ) (l : Line) (n : ℕ) (hs : List Happening) (m : ℕ) → Silent w l n hs m → g + to_down * w ≤ m
    → l.session.state ≡ Live → wait l ≡ w → l.heard ≡ g → n < g + to_down * w → DownBy l hs (g + 4 * w)
silence-down w g l n hs m none far e i f b = absurd (omega arith)
silence-down w g l n hs m (a-tick {t = t} {hs = rest} c s) far e i f b =
    go (tick-left l t e) (silence-down w g k (later l.now t) rest m s far)
  where
    k : Line
    k = after_line l (ticks t)

    go : Left l (later l.now t) k
        → (k.session.state ≡ Live → wait k ≡ w → k.heard ≡ g → later l.now t < g + to_down * w → DownBy k rest (g + 4 * w))
        → DownBy l (ticks t ∷ rest) (g + 4 * w)
    go (gone d) more = down-first l (ticks t) rest (g + 4 * w) d (omega (arith, ticks-now l t))
    go (silent live same d) more =
        let short : later l.now t < g + to_down * w = omega arith in
        down-after l (ticks t) rest (g + 4 * w) (more live (wait-kept l (ticks t) ∙ i) (same ∙ f) short)
silence-down w g l n hs m (other {h = h} {hs = rest} q s) far e i f b =
    go k.session.state (live-or-down l h e) refl (silence-down w g k n rest m s far)
  where
    k : Line
    k = after_line l h

    go : (p : State) → LiveOrDown p → k.session.state ≡ p
        → (k.session.state ≡ Live → wait k ≡ w → k.heard ≡ g → n < g + to_down * w → DownBy k rest (g + 4 * w))
        → DownBy l (h ∷ rest) (g + 4 * w)
    go p up live more = down-after l h rest (g + 4 * w) (more live (wait-kept l h ∙ i) (q live ∙ f) b)
    go p off d more =
        let before : n < m = omega arith in
        let now : k.now ≤ n + w = soon w k n rest m s before in
        down-first l h rest (g + 4 * w) d (omega arith)

-- a Live line that hears nothing is Down within four intervals of when it last heard, whatever else happens, where ticks come at least once an interval:
-- n is the time of the last tick before, or when it last heard
pub four-intervals : (l : Line) (n : ℕ) (hs : List Happening) (m : ℕ) → l.session.state ≡ Live → n < l.heard + to_down * wait l
    → Silent (wait l) l n hs m → l.heard + to_down * wait l ≤ m → DownBy l hs (l.heard + 4 * wait l)
four-intervals l n hs m e b s far = silence-down (wait l) l.heard l n hs m s far e refl refl b
