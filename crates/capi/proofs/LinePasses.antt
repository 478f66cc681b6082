-- The line as C sees it. One that passes the check keeps passing, whatever is called with it, and a day that is not refused begins with one: so no line
-- that a call hands out beside refusal 0 is ever refused with 90. The line beside a refused day is refused by every call. And what a tick gives to be
-- sent passes the check of `is_send`.
use Prim.Native.Nat.{ℕ, ◌≤◌}
use mathlib.Core.Path.{◌≡◌, refl, sym, ap, ◌∙◌}
use mathlib.Core.Bool.{Bool, true, false, cond, ◌&&◌, ◌||◌}
use mathlib.Core.List.{List, []}
use native.Mathlib.Omega.{arith}
use lib.Dec.{eqb, leb}
use borrow.Author.Tests.{le-leb, leb-true, eqb-true, eqb-false}
use Rattle.wire.proofs.TestLaws.{and-true, either}
use Rattle.message.specs.Refusal.{number_of}
use Rattle.message.specs.Vet.{good_comp_id}
use Rattle.session.specs.declared.day.Made.{Made}
use Rattle.session.specs.declared.state.Session.{Session}
use Rattle.session.specs.declared.state.State.TheVariants.{Live}
use Rattle.session.specs.Course.{Follows, stepped, connected, dropped, numbered}
use Rattle.session.specs.Day as day
use Rattle.session.specs.Held.{state_at}
use Rattle.session.specs.State.{last, code_number}
use Rattle.calls.specs.Steps.{steps as steps_of, report_of}
use Rattle.calls.proofs.CallLaws.{call-keeps}
use Rattle.line.specs.declared.line.Line.{Line}
use Rattle.line.specs.declared.line.LineCode.{LineCode}
use Rattle.line.specs.declared.line.LineMade.{LineMade}
use Rattle.line.specs.declared.tick.Ticked.{Ticked}
use Rattle.line.specs.Line.{
  is_interval,
  line_number,
  not_a_line,
  line_of,
  fresh_line,
  saved_line,
  is_live,
  moved_line,
  connect_line,
  drop_line,
  step_line,
  steps_line,
  is_held_line,
}
use Rattle.line.specs.Tick.{tick}
use Rattle.line.specs.Course as course
use Rattle.line.specs.Course.{Happening, after_line, Stands, Acted, nothing, down, test-request, heartbeat, no_number, Turns, same, by-drop, by_number}
use Rattle.line.proofs.TickLaws.{acted, tick-session}
use Rattle.line.proofs.DayLaws.{made-stands, stands-kept}
use Rattle.capi.specs.declared.shape.CLine.{CLine}
use Rattle.capi.specs.Sessions.{session_in, shown_session, is_session, shown_made, fresh_c, saved_c, is_send}
use Rattle.capi.specs.Lines.{
  shown_line,
  line_in,
  is_line,
  shown_line_made,
  fresh_line_c,
  saved_line_c,
  shown_line_connected,
  connect_line_c,
  drop_line_c,
  shown_line_stepped,
  step_line_c,
  shown_line_done,
  steps_line_c,
  act_send,
  shown_ticked,
  tick_c,
}
use Rattle.capi.proofs.GivenSends.{test-passes, beat-passes}
use Rattle.capi.proofs.RefusedDay.{refused-fresh-no-session}
use Rattle.capi.proofs.SessionLaws.{state-again, checked, standing-in, passes, follows-passes, one_passes, fresh-passes, saved-passes}

-- a line passes that stands as those of a day do, and whose session passes
stands-passes : (l : Line) → is_session (shown_session l.session) ≡ true → Stands l → is_line (shown_line l) ≡ true
unfolding is_line is_held_line
stands-passes l s k =
    rw (s, k.interval, bit l.tested, le-leb l.sent l.now k.sent, le-leb l.heard l.now k.heard, state-again l.session.state)
    (go (is_live l.session.state) refl)
  where
    bit : (b : Bool) → leb (cond b 1 0) 1 ≡ true
    bit true = refl
    bit false = refl

    go : (b : Bool) → is_live l.session.state ≡ b → b || (eqb (cond l.tested 1 0) 0 && eqb l.sent 0 && eqb l.heard 0) ≡ true
    go true e = refl
    go false e = let r = k.rests e in rw (r.0, r.1, r.2)

-- what the check says
module _ (c : CLine) (h : is_line c ≡ true) where
  session-passes : is_session c.session ≡ true
  unfolding is_line
  session-passes = (and-true (is_session c.session) _ h).0

  stands-in : Stands (line_in c)
  unfolding is_line is_held_line
  stands-in =
      let live : Bool = is_live (state_at c.session.state) in
      let interval : Bool = is_interval c.interval in
      let bit : Bool = leb c.tested 1 in
      let sent : Bool = leb c.sent c.now in
      let heard : Bool = leb c.heard c.now in
      let rest : Bool = eqb c.tested 0 && eqb c.sent 0 && eqb c.heard 0 in
      let p = and-true (interval && bit && sent && heard) (live || rest) (and-true (is_session c.session) _ h).1 in
      let q = and-true (interval && bit && sent) heard p.0 in
      let r = and-true (interval && bit) sent q.0 in
      record {
        interval = (and-true interval bit r.0).0;
        sent = leb-true c.sent c.now r.1;
        heard = leb-true c.heard c.now q.1;
        rests = λ e. none (sym (ap (λ (b : Bool). b || rest) e) ∙ p.1);
      }
    where
      none : eqb c.tested 0 && eqb c.sent 0 && eqb c.heard 0 ≡ true → (c.sent ≡ 0) × (c.heard ≡ 0) × (eqb c.tested 1 ≡ false)
      none z =
          let p = and-true (eqb c.tested 0 && eqb c.sent 0) (eqb c.heard 0) z in
          let q = and-true (eqb c.tested 0) (eqb c.sent 0) p.0 in
          (eqb-true c.sent 0 q.1, eqb-true c.heard 0 p.1, ap (λ (n : ℕ). eqb n 1) (eqb-true c.tested 0 q.0))

  -- the session afterwards passes, whatever happens
  after : {t : Session} → Follows (session_in c.session) t → is_session (shown_session t) ≡ true
  after = follows-passes c.session session-passes

  shown-passes : is_session (shown_session (session_in c.session)) ≡ true
  shown-passes = let k = checked c.session session-passes in passes (session_in c.session) (standing-in c.session k) k.plain

  turns-pass : {t : Session} → Turns (session_in c.session) t → is_session (shown_session t) ≡ true
  turns-pass same = shown-passes
  turns-pass by-drop = after dropped
  turns-pass by_number = after numbered

  after-session : (x : Happening) → is_session (shown_session (after_line (line_in c) x).session) ≡ true
  unfolding after_line connect_line drop_line step_line steps_line moved_line steps_of report_of
  after-session (course.connects t password) = after (connected password)
  after-session (course.drops t) = after dropped
  after-session (course.lends t b) = after (stepped b)
  after-session (course.many t b r q) =
      call-keeps (λ (s : Session). is_session (shown_session s) ≡ true) one_passes (session_in c.session) b r q shown-passes
  after-session (course.ticks t) = turns-pass (tick-session (line_in c) t)

  after-passes : (x : Happening) → is_line (shown_line (after_line (line_in c) x)) ≡ true
  after-passes x = stands-passes (after_line (line_in c) x) (after-session x) (stands-kept (line_in c) x stands-in)

  -- so a line that passes keeps passing
  pub connect-line-passes : (t : ℕ) (password : List ℕ) → is_line (connect_line_c c t password).line ≡ true
  unfolding connect_line_c shown_line_connected after_line
  connect-line-passes t password = rw h (after-passes (course.connects t password))

  pub drop-line-passes : (t : ℕ) → is_line (drop_line_c c t).line ≡ true
  unfolding drop_line_c after_line
  drop-line-passes t = rw h (after-passes (course.drops t))

  pub step-line-passes : (t : ℕ) (s : List ℕ) → is_line (step_line_c c t s).line ≡ true
  unfolding step_line_c shown_line_stepped after_line
  step-line-passes t s = rw h (after-passes (course.lends t s))

  pub steps-line-pass : (t : ℕ) (s : List ℕ) (r q : ℕ) → is_line (steps_line_c c t s r q).line ≡ true
  unfolding steps_line_c shown_line_done after_line
  steps-line-pass t s r q = rw h (after-passes (course.many t s r q))

  pub tick-passes : (t : ℕ) → is_line (tick_c c t).line ≡ true
  unfolding tick_c shown_ticked after_line
  tick-passes t = rw h (after-passes (course.ticks t))

-- the line beside a refusal does not pass
no_line : (k : LineCode) → is_line (shown_line (not_a_line k).line) ≡ false
unfolding is_line not_a_line fresh_c shown_made day.fresh day.day day.not_made good_comp_id code_number number_of
no_line k =
    let e : is_session (shown_session (day.fresh []).session) ≡ false = refused-fresh-no-session [] (λ z. let y : ◌≡◌ {A = ℕ} 6 0 = z in omega arith) in
    rw e

-- the line of a day: it is beside a refusal, or has the day's session
module _ (m : Made) (interval : ℕ) where
  made-session : ((shown_made m).refusal ≡ 0 → is_session (shown_made m).session ≡ true)
      → (shown_line_made (line_of m interval)).refusal ≡ 0 → is_session (shown_session (line_of m interval).line.session) ≡ true
  unfolding line_of shown_line_made shown_made line_number not_a_line
  made-session f =
      let P : LineMade → Type 0 = λ x. line_number x.code ≡ 0 → is_session (shown_session x.line.session) ≡ true in
      either P (eqb (code_number m.code) 0) (λ u. either P (is_interval interval) (λ v. f) (λ v z. absurd (omega arith)))
      (λ u z. absurd (eqb-false (code_number m.code) 0 u z))

  made-passes : ((shown_made m).refusal ≡ 0 → is_session (shown_made m).session ≡ true)
      → (shown_line_made (line_of m interval)).refusal ≡ 0 → is_line (shown_line_made (line_of m interval)).line ≡ true
  unfolding shown_line_made
  made-passes f r = stands-passes (line_of m interval).line (made-session f r) (made-stands m interval)

  made-refused : ((shown_line_made (line_of m interval)).refusal ≡ 0 → ⊥) → is_line (shown_line_made (line_of m interval)).line ≡ false
  unfolding line_of shown_line_made line_number
  made-refused =
      let P : LineMade → Type 0 = λ x. (line_number x.code ≡ 0 → ⊥) → is_line (shown_line x.line) ≡ false in
      either P (eqb (code_number m.code) 0)
      (λ u. either P (is_interval interval) (λ v r. absurd (r (eqb-true (code_number m.code) 0 u))) (λ v r. no_line _))
      (λ u r. no_line _)

-- a day that is not refused begins with a line that passes
pub fresh-line-passes : (comp_id : List ℕ) (interval : ℕ) → (fresh_line_c comp_id interval).refusal ≡ 0 → is_line (fresh_line_c comp_id interval).line ≡ true
unfolding fresh_line_c fresh_line fresh_c
fresh-line-passes comp_id interval = made-passes (day.fresh comp_id) interval (fresh-passes comp_id)

pub saved-line-passes : (comp_id : List ℕ) (e o interval : ℕ) → (saved_line_c comp_id e o interval).refusal ≡ 0
    → is_line (saved_line_c comp_id e o interval).line ≡ true
unfolding saved_line_c saved_line saved_c
saved-line-passes comp_id e o interval = made-passes (day.saved comp_id e o) interval (saved-passes comp_id e o)

-- and the line beside a refusal is refused by every call
pub refused-fresh-no-line : (comp_id : List ℕ) (interval : ℕ) → ((fresh_line_c comp_id interval).refusal ≡ 0 → ⊥)
    → is_line (fresh_line_c comp_id interval).line ≡ false
unfolding fresh_line_c fresh_line
refused-fresh-no-line comp_id interval = made-refused (day.fresh comp_id) interval

pub refused-saved-no-line : (comp_id : List ℕ) (e o interval : ℕ) → ((saved_line_c comp_id e o interval).refusal ≡ 0 → ⊥)
    → is_line (saved_line_c comp_id e o interval).line ≡ false
unfolding saved_line_c saved_line
refused-saved-no-line comp_id e o interval = made-refused (day.saved comp_id e o) interval

-- the lines that calls hand out, from a day that is not refused on
pub data HandedLine : CLine → Type 0 where
  fresh : (comp_id : List ℕ) (interval : ℕ) → (fresh_line_c comp_id interval).refusal ≡ 0 → HandedLine (fresh_line_c comp_id interval).line
  saved : (comp_id : List ℕ) (e o interval : ℕ) → (saved_line_c comp_id e o interval).refusal ≡ 0 → HandedLine (saved_line_c comp_id e o interval).line
  connects : {c : CLine} → HandedLine c → (t : ℕ) (password : List ℕ) → HandedLine (connect_line_c c t password).line
  drops : {c : CLine} → HandedLine c → (t : ℕ) → HandedLine (drop_line_c c t).line
  steps : {c : CLine} → HandedLine c → (t : ℕ) (s : List ℕ) → HandedLine (step_line_c c t s).line
  steps-many : {c : CLine} → HandedLine c → (t : ℕ) (s : List ℕ) (r q : ℕ) → HandedLine (steps_line_c c t s r q).line
  ticks : {c : CLine} → HandedLine c → (t : ℕ) → HandedLine (tick_c c t).line

-- none of them is refused with 90
pub handed-line-passes : {c : CLine} → HandedLine c → is_line c ≡ true
handed-line-passes (fresh comp_id interval h) = fresh-line-passes comp_id interval h
handed-line-passes (saved comp_id e o interval h) = saved-line-passes comp_id e o interval h
handed-line-passes (connects {c = c} h t password) = connect-line-passes c (handed-line-passes h) t password
handed-line-passes (drops {c = c} h t) = drop-line-passes c (handed-line-passes h) t
handed-line-passes (steps {c = c} h t s) = step-line-passes c (handed-line-passes h) t s
handed-line-passes (steps-many {c = c} h t s r q) = steps-line-pass c (handed-line-passes h) t s r q
handed-line-passes (ticks {c = c} h t) = tick-passes c (handed-line-passes h) t

-- what a tick gives to be sent passes: a Live session that passes has used up our number 1
pub tick-send-passes : (c : CLine) → is_line c ≡ true → c.session.own ≤ last → (t : ℕ) → is_send (tick_c c t).send ≡ true
unfolding tick_c shown_ticked act_send is_send
tick-send-passes c h l t = rw h (go (tick (line_in c) t) (acted (line_in c) t))
  where
    used : state_at c.session.state ≡ Live → 2 ≤ c.session.own
    used e = (standing-in c.session (checked c.session (session-passes c h))).up (λ d. let z : ◌≡◌ {A = ℕ} 0 1 = cc in omega arith)

    go : (x : Ticked) → Acted (line_in c) t x → is_send (act_send x.act) ≡ true
    go x (nothing q) = refl
    go x (down e d) = refl
    go x (test-request e f g u o) = test-passes c.session.own (used e) (omega arith)
    go x (heartbeat e f u b o) = beat-passes c.session.own (used e) (omega arith)
    go x (no_number e f g o) = refl
