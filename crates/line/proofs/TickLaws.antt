-- What a tick does: at most one thing (`acted`), so that a second one at the same time does nothing; what it leaves of the session; and that a line which
-- hears is never put Down. With the clock left out every other call is the session's.
use Prim.Native.Nat.{ℕ, ◌+◌, ◌*◌, ◌<◌, ◌≤◌}
use mathlib.Core.Path.{◌≡◌, refl, sym, ap, subst, ◌∙◌}
use mathlib.Core.Bool.{Bool, true, false, not, ◌&&◌, ◌||◌, and-true as and_so}
use mathlib.Core.List.{List}
use mathlib.Core.Logic.{inl, inr}
use native.Mathlib.Omega.{arith}
use lib.Dec.{eqb, leb, ltb}
use borrow.Author.Tests.{ltb-true, ltb-false, leb-true, leb-false, eqb-true, eqb-false, eq-eqb, ne_eqb, not-true}
use Rattle.wire.proofs.TestLaws.{either, and-true}
use Rattle.session.specs.declared.day.Owned.{Owned}
use Rattle.session.specs.declared.state.Fault.TheVariants.{Halted}
use Rattle.session.specs.declared.state.Halt.TheVariants.{NoNumber}
use Rattle.session.specs.declared.state.Session.{Session}
use Rattle.session.specs.declared.state.State.{State}
use Rattle.session.specs.declared.state.State.TheVariants.{Down, Waiting, Live}
use Rattle.session.specs.State.{last, halt_number, code_number, moved}
use Rattle.session.specs.Day.{connect, drop, not_owned, own_number_in, own_number, step}
use Rattle.session.proofs.Effect.{drop-kept, drop-expected, own-kept, own-expected}
use Rattle.calls.specs.Steps.{called, steps, report_of}
use Rattle.line.specs.declared.line.Line.{Line}
use Rattle.line.specs.declared.tick.Act.TheVariants as act
use Rattle.line.specs.declared.tick.Due.{Due}
use Rattle.line.specs.declared.tick.Due.TheVariants as due
use Rattle.line.specs.declared.tick.Own.{Own}
use Rattle.line.specs.declared.tick.Own.TheVariants as own
use Rattle.line.specs.declared.tick.Ticked.{Ticked}
use Rattle.std.specs.Prelude.{Option, Some, None}
use Rattle.line.specs.Line.{later, is_live, goes_on, wait_since, moved_line, connect_line, drop_line, step_line, steps_line}
use Rattle.line.specs.Tick.{
  to_test_request,
  to_down,
  wait,
  reached,
  due_by,
  due_live,
  due_at,
  timed,
  is_test,
  tested_line,
  says,
  own_act,
  numbered,
  tick_by,
  tick,
}
use Rattle.line.specs.Course.{
  Happening,
  after_line,
  InTime,
  at_tick,
  at-connect,
  at_drop,
  at-step,
  at_call,
  PutsDown,
  by-tick,
  All,
  none,
  more,
  Rests,
  NothingDue,
  sent_line,
  Acted,
  nothing,
  down,
  test-request,
  heartbeat,
  no_number,
  Turns,
  same,
  by-drop,
  by_number,
}

-- `later` is the greater of the two
pub later-least : (n t : ℕ) → n ≤ later n t
unfolding later
later-least n t = either (λ (x : ℕ). n ≤ x) (ltb t n) (λ h. omega arith) (λ h. ltb-false t n h)

pub later-given : (n t : ℕ) → t ≤ later n t
unfolding later
later-given n t = either (λ (x : ℕ). t ≤ x) (ltb t n) (λ h. omega (arith, ltb-true t n h)) (λ h. omega arith)

pub later-stays : (n t : ℕ) → t ≤ n → later n t ≡ n
unfolding later
later-stays n t l = either (λ (x : ℕ). x ≡ n) (ltb t n) (λ h. refl) (λ h. omega (arith, ltb-false t n h))

pub later-again : (n t : ℕ) → later (later n t) t ≡ later n t
later-again n t = later-stays (later n t) t (later-given n t)

pub later-within : (n t k : ℕ) → n ≤ k → t ≤ k → later n t ≤ k
unfolding later
later-within n t k h g = either (λ (x : ℕ). x ≤ k) (ltb t n) (λ u. h) (λ u. g)

pub before-later : (n t k : ℕ) → n ≤ k → k < later n t → k < t
unfolding later
before-later n t k h = either (λ (x : ℕ). k < x → k < t) (ltb t n) (λ u g. absurd (omega arith)) (λ u g. g)

-- what `is_live` tests
pub live_state : (p : State) → is_live p ≡ true → p ≡ Live
unfolding is_live
live_state Down h = let z : ◌≡◌ {A = ℕ} 0 1 = cc in absurd (omega arith)
live_state Waiting h = let z : ◌≡◌ {A = ℕ} 0 1 = cc in absurd (omega arith)
live_state Live h = refl

pub state-live : (p : State) → p ≡ Live → is_live p ≡ true
unfolding is_live
state-live p e = ap is_live e

pub other-state : (p : State) → is_live p ≡ false → p ≡ Live → ⊥
unfolding is_live
other-state Down h e = let z : ◌≡◌ {A = ℕ} 0 1 = cc in omega arith
other-state Waiting h e = let z : ◌≡◌ {A = ℕ} 0 1 = cc in omega arith
other-state Live h e = let z : ◌≡◌ {A = ℕ} 0 1 = cc in omega arith

pub down-other : {p : State} → p ≡ Down → p ≡ Live → ⊥
down-other a b = let z : ◌≡◌ {A = ℕ} 0 1 = cc in omega arith

-- a number of ours: a Live session gives its O and stays Live, and with none left is dropped
pub own-given : (s : Session) → s.state ≡ Live → (s.own ≡ last → ⊥)
    → own_number s ≡ record { session = moved s Live s.expected (s.own + 1) s.ahead; code = None; number = s.own }
unfolding own_number own_number_in
own-given s e h = ap (λ (p : State). own_number_in p s) e ∙ rw (ne_eqb s.own last h)

own-spent : (s : Session) → s.state ≡ Live → s.own ≡ last → own_number s ≡ not_owned (drop s) (Some (Halted NoNumber))
unfolding own_number own_number_in
own-spent s e h = ap (λ (p : State). own_number_in p s) e ∙ rw (eq-eqb s.own last h)

pub own-state : (s : Session) → s.state ≡ Live → (s.own ≡ last → ⊥) → (own_number s).session.state ≡ Live
own-state s e h = ap (λ (o : Owned). o.session.state) (own-given s e h)

-- a message with a number
given-message : (x : Own) (l : Line) (t : ℕ) → l.session.state ≡ Live → (l.session.own ≡ last → ⊥)
    → numbered x l t (own_number l.session) ≡ says (sent_line x l t) None (Some (own_act x l.session.own))
unfolding numbered code_number
given-message x l t e h =
    let g = own-given l.session e h in
    rw (ap (λ (o : Owned). o.code) g, ap (λ (o : Owned). o.number) g)

-- and one without
spent-message : (x : Own) (l : Line) (t : ℕ) → l.session.state ≡ Live → l.session.own ≡ last
    → numbered x l t (own_number l.session) ≡ says (drop_line l t) (Some (Halted NoNumber)) None
unfolding numbered code_number halt_number drop_line not_owned
spent-message x l t e h = ap (numbered x l t) (own-spent l.session e h)

-- a message that is due has a number, or there is none
message : (x : Own) (l : Line) (t : ℕ) → l.session.state ≡ Live
    → ((l.session.own ≡ last → ⊥) → Acted l t (says (sent_line x l t) None (Some (own_act x l.session.own))))
    → (l.session.own ≡ last → Acted l t (says (drop_line l t) (Some (Halted NoNumber)) None)) → Acted l t (numbered x l t (own_number l.session))
message x l t e given spent = go (eqb l.session.own last) refl
  where
    go : (b : Bool) → eqb l.session.own last ≡ b → Acted l t (numbered x l t (own_number l.session))
    go true u = let h = eqb-true l.session.own last u in subst (Acted l t) (sym (spent-message x l t e h)) (spent h)
    go false u = let h = eqb-false l.session.own last u in subst (Acted l t) (sym (given-message x l t e h)) (given h)

-- a tick does at most one thing
pub acted : (l : Line) (t : ℕ) → Acted l t (tick l t)
unfolding tick tick_by due_at due_live due_by reached own_act
acted l t =
    either P (is_live l.session.state)
    (λ u. let e = live_state l.session.state u in
    either P (leb (l.heard + to_down * wait l) n) (λ d. down e (leb-true (l.heard + to_down * wait l) n d))
    (λ d. let f = leb-false (l.heard + to_down * wait l) n d in
    either P (leb (l.heard + to_test_request * wait l) n && not l.tested)
    (λ b. test e f (and-true (leb (l.heard + to_test_request * wait l) n) (not l.tested) b))
    (λ b. either P (leb (l.sent + wait l) n) (λ c. beat e f (untested b) (leb-true (l.sent + wait l) n c))
    (λ c. nothing (λ e. record { down = f; test = untested b; beat = leb-false (l.sent + wait l) n c })))))
    (λ u. nothing (λ e. absurd (other-state l.session.state u e)))
  where
    n : ℕ
    n = later l.now t

    P : Option Due → Type 0
    P d = Acted l t (tick_by d l t)

    untested : leb (l.heard + to_test_request * wait l) n && not l.tested ≡ false → l.tested ≡ false → n < l.heard + to_test_request * wait l
    untested b e =
        let c : Bool = leb (l.heard + to_test_request * wait l) n in
        leb-false (l.heard + to_test_request * wait l) n (sym (and_so c) ∙ ap (λ (x : Bool). c && not x) (sym e) ∙ b)

    test : l.session.state ≡ Live → n < l.heard + to_down * wait l
        → (leb (l.heard + to_test_request * wait l) n ≡ true) × (not l.tested ≡ true) → P (Some (due.Message own.TestRequest))
    test e f b =
        let g = leb-true (l.heard + to_test_request * wait l) n b.0 in
        let u = not-true l.tested b.1 in
        message own.TestRequest l t e (test-request e f g u) (no_number e f (inl (u, g)))

    beat : l.session.state ≡ Live → n < l.heard + to_down * wait l → (l.tested ≡ false → n < l.heard + to_test_request * wait l)
        → l.sent + wait l ≤ n → P (Some (due.Message own.Heartbeat))
    beat e f u b = message own.Heartbeat l t e (heartbeat e f u b) (no_number e f (inr b))

-- where none of the three is due, a tick does nothing, and where it does nothing, none is due
pub not-due-rests : (l : Line) (t : ℕ) → (l.session.state ≡ Live → NothingDue l (later l.now t)) → Rests l t
not-due-rests l t q = go (tick l t) (acted l t)
  where
    go : (x : Ticked) → Acted l t x → x ≡ says (timed l t) None None
    go x (nothing h) = refl
    go x (down e d) = absurd (omega (arith, (q e).down))
    go x (test-request e f g u o) = absurd (omega (arith, (q e).test u))
    go x (heartbeat e f u b o) = absurd (omega (arith, (q e).beat))
    go x (no_number e f (inl g) o) = absurd (omega (arith, (q e).test g.0))
    go x (no_number e f (inr b) o) = absurd (omega (arith, (q e).beat))

pub rests-not-due : (l : Line) (t : ℕ) → Rests l t → l.session.state ≡ Live → NothingDue l (later l.now t)
rests-not-due l t r = go (tick l t) (acted l t) (ap (λ (x : Ticked). x.act) r) (ap (λ (x : Ticked). x.code) r)
  where
    go : (x : Ticked) → Acted l t x → x.act ≡ None → x.code ≡ None → l.session.state ≡ Live → NothingDue l (later l.now t)
    go x (nothing h) a c = h
    go x (down e d) a c = let z : ◌≡◌ {A = ℕ} 0 1 = cc in absurd (omega arith)
    go x (test-request e f g u o) a c = let z : ◌≡◌ {A = ℕ} 0 1 = cc in absurd (omega arith)
    go x (heartbeat e f u b o) a c = let z : ◌≡◌ {A = ℕ} 0 1 = cc in absurd (omega arith)
    go x (no_number e f g o) a c = let z : ◌≡◌ {A = ℕ} 0 1 = cc in absurd (omega arith)

-- a line that has sent a message: it is Live, its silence goes on, and the next Heartbeat is an interval away
module _ (x : Own) (l : Line) (t : ℕ) (e : l.session.state ≡ Live) (o : l.session.own ≡ last → ⊥) where
  pub sent-live : (sent_line x l t).session.state ≡ Live
  unfolding tested_line moved_line
  sent-live = own-state l.session e o

  pub sent-heard : (sent_line x l t).heard ≡ l.heard
  unfolding tested_line moved_line goes_on wait_since
  sent-heard = rw (state-live _ e, state-live _ (own-state l.session e o))

  pub sent-tested : (sent_line x l t).tested ≡ is_test x || l.tested
  unfolding tested_line moved_line goes_on wait_since
  sent-tested = rw (state-live _ e, state-live _ (own-state l.session e o))

  pub sent-now : (sent_line x l t).sent ≡ later l.now t
  unfolding tested_line moved_line goes_on wait_since
  sent-now = rw (state-live _ e, state-live _ (own-state l.session e o))

-- a tick takes the time
pub tick-now : (l : Line) (t : ℕ) → (tick l t).line.now ≡ later l.now t
unfolding timed tested_line drop_line moved_line
tick-now l t = go (tick l t) (acted l t)
  where
    go : (x : Ticked) → Acted l t x → x.line.now ≡ later l.now t
    go x (nothing q) = refl
    go x (down e d) = refl
    go x (test-request e f g u o) = refl
    go x (heartbeat e f u b o) = refl
    go x (no_number e f g o) = refl

tick-again : (l : Line) (t : ℕ) → later (tick l t).line.now t ≡ later l.now t
tick-again l t = ap (λ (n : ℕ). later n t) (tick-now l t) ∙ later-again l.now t

-- a second tick at the same time does nothing
pub second-tick : (l : Line) (t : ℕ) → 1 ≤ l.interval → Rests (tick l t).line t
unfolding timed drop_line tested_line is_test moved_line drop wait
second-tick l t i =
    not-due-rests (tick l t).line t (λ s. subst (NothingDue (tick l t).line) (sym (tick-again l t)) (go (tick l t) (acted l t) s))
  where
    go : (x : Ticked) → Acted l t x → x.line.session.state ≡ Live → NothingDue x.line (later l.now t)
    go x (nothing q) s = record { down = (q s).down; test = (q s).test; beat = (q s).beat }
    go x (down e d) s = absurd (down-other refl s)
    go x (test-request e f g u o) s = record {
      down = omega (arith, sent-heard own.TestRequest l t e o);
      test = λ h. let z : ◌≡◌ {A = ℕ} 0 1 = cc in absurd (omega arith);
      beat = omega (arith, sent-now own.TestRequest l t e o);
    }
    go x (heartbeat e f u b o) s = record {
      down = omega (arith, sent-heard own.Heartbeat l t e o);
      test = λ h. omega (arith, sent-heard own.Heartbeat l t e o, u (sym (sent-tested own.Heartbeat l t e o) ∙ h));
      beat = omega (arith, sent-now own.Heartbeat l t e o);
    }
    go x (no_number e f g o) s = absurd (down-other refl s)

same-time : (l : Line) (t : ℕ) → later l.now t ≡ l.now → timed l t ≡ l
unfolding timed
same-time l t e = rw e

-- nor does it change the line
pub second-same : (l : Line) (t : ℕ) → timed (tick l t).line t ≡ (tick l t).line
second-same l t = same-time (tick l t).line t (tick-again l t ∙ sym (tick-now l t))

-- the session after a tick
pub tick-session : (l : Line) (t : ℕ) → Turns l.session (tick l t).line.session
unfolding timed tested_line drop_line moved_line
tick-session l t = go (tick l t) (acted l t)
  where
    go : (x : Ticked) → Acted l t x → Turns l.session x.line.session
    go x (nothing q) = same
    go x (down e d) = by-drop
    go x (test-request e f g u o) = by_number
    go x (heartbeat e f u b o) = by_number
    go x (no_number e f g o) = by-drop

turns-expected : {s p : Session} → Turns s p → p.expected ≡ s.expected
turns-expected same = refl
turns-expected {s = s} by-drop = drop-expected s
turns-expected {s = s} by_number = own-expected s

turns-ours : {s p : Session} → Turns s p → p.ours ≡ s.ours
turns-ours same = refl
turns-ours {s = s} by-drop = (drop-kept s).ours
turns-ours {s = s} by_number = (own-kept s).ours

-- a tick leaves E and our Comp ID
pub tick-expected : (l : Line) (t : ℕ) → (tick l t).line.session.expected ≡ l.session.expected
tick-expected l t = turns-expected (tick-session l t)

pub tick-ours : (l : Line) (t : ℕ) → (tick l t).line.session.ours ≡ l.session.ours
tick-ours l t = turns-ours (tick-session l t)

-- with the clock left out, the other calls are the session's
module _ (l : Line) (t : ℕ) where
  pub connect-session : (password : List ℕ) → (connect_line l t password).line.session ≡ (connect l.session password).session
  unfolding connect_line moved_line
  connect-session password = refl

  pub connect-answer : (password : List ℕ) → ((connect_line l t password).code ≡ (connect l.session password).code)
      × ((connect_line l t password).number ≡ (connect l.session password).number) × ((connect_line l t password).next ≡ (connect l.session password).next)
  unfolding connect_line
  connect-answer password = (refl, refl, refl)

  pub drop-session : (drop_line l t).session ≡ drop l.session
  unfolding drop_line moved_line
  drop-session = refl

  pub step-session : (b : List ℕ) → (step_line l t b).line.session ≡ (step l.session b).session
  unfolding step_line moved_line
  step-session b = refl

  pub step-answer : (b : List ℕ) → (step_line l t b).answer ≡ (step l.session b).answer
  unfolding step_line
  step-answer b = refl

  pub steps-session : (b : List ℕ) (r q : ℕ) → (steps_line l t b r q).line.session ≡ (called l.session b r q).session
  unfolding steps_line moved_line steps report_of
  steps-session b r q = refl

  pub steps-answer : (b : List ℕ) (r q : ℕ) → ((steps_line l t b r q).code ≡ (steps l.session b r q).code)
      × ((steps_line l t b r q).used ≡ (steps l.session b r q).used) × ((steps_line l t b r q).rows ≡ (steps l.session b r q).rows)
      × ((steps_line l t b r q).sends ≡ (steps l.session b r q).sends) × ((steps_line l t b r q).ended ≡ (steps l.session b r q).ended)
  unfolding steps_line
  steps-answer b r q = (refl, refl, refl, refl, refl)

-- before three intervals have passed without hearing, a tick does not put the line Down
pub never-down : (l : Line) (t : ℕ) → (l.session.state ≡ Live → later l.now t < l.heard + to_down * wait l) → (tick l t).act ≡ Some act.Down → ⊥
never-down l t h = go (tick l t) (acted l t)
  where
    go : (x : Ticked) → Acted l t x → x.act ≡ Some act.Down → ⊥
    go x (nothing q) a = let z : ◌≡◌ {A = ℕ} 0 1 = cc in omega arith
    go x (down e d) a = omega (arith, h e)
    go x (test-request e f g u o) a = let z : ◌≡◌ {A = ℕ} 0 1 = cc in omega arith
    go x (heartbeat e f u b o) a = let z : ◌≡◌ {A = ℕ} 0 1 = cc in omega arith
    go x (no_number e f g o) a = let z : ◌≡◌ {A = ℕ} 0 1 = cc in omega arith

in-time-up : {l : Line} {h : Happening} → InTime l h → PutsDown l h → ⊥
in-time-up {l = l} (at_tick b) (by-tick {t = t} e) = never-down l t b e
in-time-up (at-connect {t = t} {password = password}) h = elim h [ ]
in-time-up (at_drop {t = t}) h = elim h [ ]
in-time-up (at-step {t = t} {b = b}) h = elim h [ ]
in-time-up (at_call {t = t} {r = r} {q = q} {b = b}) h = elim h [ ]

-- so one that always hears in time is never put Down
pub hears-never-down : (l : Line) (hs : List Happening) → All InTime l hs → All (λ (k : Line) (h : Happening). PutsDown k h → ⊥) l hs
hears-never-down l hs none = none
hears-never-down l hs (more {h = h} {hs = others} i is) = more (in-time-up i) (hears-never-down (after_line l h) others is)

-- and it stays Live, while it has a number for what is due
pub stays-live : (l : Line) (t : ℕ) → l.session.state ≡ Live → later l.now t < l.heard + to_down * wait l → (l.session.own ≡ last → ⊥)
    → (tick l t).line.session.state ≡ Live
unfolding timed
stays-live l t s h n = go (tick l t) (acted l t)
  where
    go : (x : Ticked) → Acted l t x → x.line.session.state ≡ Live
    go x (nothing q) = s
    go x (down e d) = absurd (omega arith)
    go x (test-request e f g u o) = sent-live own.TestRequest l t e o
    go x (heartbeat e f u b o) = sent-live own.Heartbeat l t e o
    go x (no_number e f g o) = absurd (n o)
