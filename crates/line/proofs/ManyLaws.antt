-- A call of many messages at a time is single steps at that time.
use Prim.Native.Nat.{ℕ, zero, suc, ◌+◌}
use mathlib.Core.Path.{◌≡◌, refl, sym, ap, subst, ◌∙◌}
use mathlib.Core.Bool.{Bool, true, false, not, ◌&&◌, ◌||◌, true≢false, and-false, and_assoc}
use mathlib.Core.List.{List, [], ◌∷◌, ◌++◌}
use native.Mathlib.Omega.{arith}
use lib.Dec.{eqb}
use lib.ListN.{length, drop}
use borrow.Author.Tests.{ne_eqb, eqb-false}
use Rattle.std.specs.Prelude.{Option, Some, None}
use Rattle.wire.proofs.TestLaws.{either}
use Rattle.message.specs.declared.refusal.Refusal.TheVariants.{NoRoom}
use Rattle.message.specs.Frame.{front_length}
use Rattle.message.specs.Refusal.{number_of}
use Rattle.session.specs.declared.state.Answer.{Answer}
use Rattle.session.specs.declared.state.Fault.{Fault}
use Rattle.session.specs.declared.state.Fault.TheVariants.{Refused, Halted}
use Rattle.session.specs.declared.state.Halt.TheVariants as halt
use Rattle.session.specs.declared.state.Send.{Send}
use Rattle.session.specs.declared.state.Session.{Session}
use Rattle.session.specs.declared.state.State.{State}
use Rattle.session.specs.declared.state.State.TheVariants.{Down}
use Rattle.session.specs.Day.{step}
use Rattle.session.specs.Held.{state_number}
use Rattle.session.specs.State.{halt_number, code_number, send_none, told}
use Rattle.session.proofs.SessionLaws.{down-nothing}
use Rattle.calls.specs.declared.Done.{Done}
use Rattle.calls.specs.declared.Ended.{Ended}
use Rattle.calls.specs.Steps.{send_in, sends_of, is_heard, Did, joined, step_done, has_room, refusal_in, called_by, called, slots_by, report_of, steps, singles}
use Rattle.calls.proofs.SingleLaws.{single-steps}
use Rattle.line.specs.declared.line.Line.{Line}
use Rattle.line.specs.Line.{later, is_live, goes_on, wait_since, moved_line, is_any, step_line, is_sending, steps_line}
use Rattle.line.specs.Tick.{timed}
use Rattle.line.specs.Course.{Stands, singles_line}
use Rattle.line.proofs.TickLaws.{later-again, live_state}
use Rattle.line.proofs.DayLaws.{moved-stands}
use Rattle.line.proofs.LiveLaws.{LiveOrDown, up, off, step-live-or-down}

-- waits through two moves of a line: from a to b to c
goes_twice : (a b c x y : Bool) → (a ≡ true → c ≡ true → b ≡ true) → goes_on b c y && goes_on a b x ≡ goes_on a c (x || y)
unfolding goes_on
goes_twice false b c x y h = and-false (goes_on b c y)
goes_twice true true false x y h = refl
goes_twice true true true false false h = refl
goes_twice true true true false true h = refl
goes_twice true true true true false h = refl
goes_twice true true true true true h = refl
goes_twice true false false x y h = refl
goes_twice true false true x y h = absurd (true≢false (sym (h refl refl)))

since-by : (b c y g : Bool) (n since : ℕ) → wait_since (goes_on b c y) c n (wait_since g b n since) ≡ wait_since (goes_on b c y && g) c n since
unfolding goes_on wait_since
since-by false c y g n since = refl
since-by true false y g n since = refl
since-by true true false g n since = refl
since-by true true true g n since = refl

since-twice : (a b c x y : Bool) (n since : ℕ) → (a ≡ true → c ≡ true → b ≡ true)
    → wait_since (goes_on b c y) c n (wait_since (goes_on a b x) b n since) ≡ wait_since (goes_on a c (x || y)) c n since
since-twice a b c x y n since h = since-by b c y (goes_on a b x) n since ∙ ap (λ (g : Bool). wait_since g c n since) (goes_twice a b c x y h)

test-twice : (a b c x y tested : Bool) → (a ≡ true → c ≡ true → b ≡ true) → goes_on b c y && (goes_on a b x && tested) ≡ goes_on a c (x || y) && tested
test-twice a b c x y tested h =
    sym (and_assoc (goes_on b c y) (goes_on a b x) tested) ∙ ap (λ (g : Bool). g && tested) (goes_twice a b c x y h)

-- two moves at one time are one, unless the session was Live, is Live and was not between
pub moved_twice : (l : Line) (t : ℕ) (p s : Session) (h x h' x' : Bool)
    → (is_live l.session.state ≡ true → is_live s.state ≡ true → is_live p.state ≡ true)
    → moved_line (moved_line l t p h x) t s h' x' ≡ moved_line l t s (h || h') (x || x')
unfolding moved_line
moved_twice l t p s h x h' x' b =
    rw (
      later-again l.now t,
      since-twice _ _ _ x x' (later l.now t) l.sent b,
      since-twice _ _ _ h h' (later l.now t) l.heard b,
      test-twice _ _ _ h h' l.tested b,
    )

-- a move by which nothing is heard or sent and the session stays as it is
pub moved_same : (l : Line) (t : ℕ) → Stands l → moved_line l t l.session false false ≡ timed l t
unfolding moved_line timed goes_on wait_since
moved_same l t k = go (is_live l.session.state) refl
  where
    go : (b : Bool) → is_live l.session.state ≡ b → moved_line l t l.session false false ≡ timed l t
    go true e = rw e
    go false e = let r = k.rests e in rw (e, r.0, r.1, r.2)

-- whether there are messages to send
unfoldable any : List Send → Bool
any xs = not (eqb (length xs) 0)

any-more : (x : Send) (xs : List Send) → any (x ∷ xs) ≡ true
unfolding any
any-more x xs = ap not (ne_eqb (length (x ∷ xs)) 0 (λ e. omega arith))

any-both : (xs ys : List Send) → any (xs ++ ys) ≡ any xs || any ys
unfolding any
any-both [] ys = refl
any-both (x ∷ xs) ys = any-more x (xs ++ ys) ∙ ap (λ (b : Bool). b || any ys) (sym (any-more x xs))

any-in : (x : Send) → any (send_in x) ≡ is_any x
unfolding any send_in is_any
any-in x =
    either (λ (xs : List Send). any xs ≡ is_any x) (eqb (told x).kind send_none) (λ t. ap not (sym t)) (λ t. any-more x [] ∙ ap not (sym t))

any_of : (a : Answer) → any (sends_of a) ≡ is_any a.first || is_any a.second
unfolding sends_of
any_of a = any-both (send_in a.first) (send_in a.second) ∙ rw (any-in a.first, any-in a.second)

-- a Down session stays so, whatever steps there are
singles-down : (k at : ℕ) (s : Session) (left : List ℕ) (why : Ended) → s.state ≡ Down → (singles k at s left why).session.state ≡ Down
unfolding singles joined
singles-down zero at s left why d = d
singles-down (suc k) at s left why d =
    singles-down k _ (step s left).session _ why (ap (λ (p : Session). p.state) (down-nothing s left d).session ∙ d)

-- so one that was Live and is Live after some steps was Live between
module _ (k at : ℕ) (s : Session) (b left : List ℕ) (why : Ended) where
  between : is_live s.state ≡ true → is_live (singles k at (step s b).session left why).session.state ≡ true → is_live (step s b).session.state ≡ true
  unfolding is_live
  between e f =
      go (step s b).session.state (step-live-or-down s (subst LiveOrDown (sym (live_state s.state e)) up) b) refl
    where
      go : (p : State) → LiveOrDown p → (step s b).session.state ≡ p → is_live p ≡ true
      go p up g = refl
      go p off g = sym (ap is_live (singles-down k at (step s b).session left why g)) ∙ f

-- the line by the session that some single steps leave, by whether they heard and whether they send, is the line of those steps at that time
single-lines : (k at : ℕ) (l : Line) (t : ℕ) (b : List ℕ) (why : Ended) → Stands l
    → moved_line l t (singles k at l.session b why).session (singles k at l.session b why).heard (any (singles k at l.session b why).sends)
    ≡ timed (singles_line k l t b) t
unfolding singles singles_line joined step_done step_line moved_line any
single-lines zero at l t b why h = moved_same l t h
single-lines (suc k) at l t b why h =
    let s : Session = (step l.session b).session in
    let a : Answer = (step l.session b).answer in
    let left : List ℕ = drop (front_length b) b in
    let x = singles k (at + front_length b) s left why in
    ap (λ (y : Bool). moved_line l t x.session (is_heard a.code || x.heard) y)
    (any-both (sends_of a) x.sends ∙ ap (λ (y : Bool). y || any x.sends) (any_of a))
    ∙ sym (moved_twice l t s x.session (is_heard a.code) (is_any a.first || is_any a.second) x.heard (any x.sends)
    (between k (at + front_length b) l.session b left why))
    ∙ single-lines k (at + front_length b) (step_line l t b).line t left why (moved-stands l t s (is_heard a.code) (is_any a.first || is_any a.second) h)

-- the line that a call leaves, by what the call does
abbrev done_line : Line → ℕ → Done → Line
done_line l t x = moved_line l t x.session x.heard (is_sending x)

module _ (l : Line) (t : ℕ) (b : List ℕ) (r q : ℕ) (h : Stands l) where
  abbrev Single : Option Fault → Type 0
  Single k = (n : ℕ) × (done_line l t (report_of k (called_by k l.session b r q)) ≡ timed (singles_line n l t b) t)

  -- a refusal is no step, and a call that is not refused some
  down-single : Single (Some (Halted halt.Down))
  unfolding report_of called_by slots_by is_sending code_number halt_number singles_line
  down-single = (0, moved_same l t h)

  full-single : (n : ℕ) → Single (Some (Refused (NoRoom n)))
  unfolding report_of called_by slots_by is_sending code_number number_of singles_line
  full-single n = (0, moved_same l t h)

  good-single : (l.session.state ≡ Down → ⊥) → Single None
  unfolding report_of called_by slots_by is_sending code_number any
  good-single u =
      let w = single-steps 0 r q l.session b u in
      (w.0, ap (λ (x : Did Ended). moved_line l t x.session x.heard (any x.sends)) w.1 ∙ single-lines w.0 0 l t b _ h)

  -- a call of many messages at a time is so many single steps at that time
  pub many-single : (k : ℕ) × ((steps_line l t b r q).line ≡ timed (singles_line k l t b) t)
  unfolding steps_line steps called refusal_in
  many-single =
      either Single (eqb (state_number l.session.state) (state_number Down)) (λ e. down-single)
      (λ e. let u = eqb-false (state_number l.session.state) (state_number Down) e in
      either Single (has_room r q) (λ f. good-single (λ d. u (ap state_number d))) (λ f. full-single _))
