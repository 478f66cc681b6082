-- The check of messages to send is exact: each one that passes arises, and so none passes that neither a step nor a tick can give. By the rules on a
-- message, or by a tick, whatever our Comp ID is.
use Prim.Native.Nat.{ℕ, ◌+◌, ◌<◌, ◌≤◌}
use mathlib.Core.Path.{◌≡◌, refl, sym, ap, subst, ◌∙◌}
use mathlib.Core.Bool.{true, false}
use mathlib.Core.List.{List}
use mathlib.Core.Logic.{◌⊎◌, inl, inr}
use native.Mathlib.Omega.{arith}
use lib.Dec.{ltb}
use borrow.Author.Tests.{le-leb, lt-leb, lt-ltb, le-ltb, ne_eqb}
use Rattle.session.specs.declared.arrival.Content.{Content}
use Rattle.session.specs.declared.arrival.Content.TheVariants as content
use Rattle.session.specs.declared.arrival.Message.{Message}
use Rattle.session.specs.declared.state.Send.{Send}
use Rattle.session.specs.declared.state.Send.TheVariants.{Nothing, Heartbeat, Logout, GapFill, ResendRequest}
use Rattle.session.specs.Held.{state_at, is_plain_comp_id, least_own, is_ahead, is_held}
use Rattle.session.specs.Rules.{is_bad_range, fill_end, slots, request, ask, higher, test_request, resend_request, equal, numbered, live, for_us, ruled_in, ruled}
use Rattle.session.specs.Day.{own_number_in, own_number}
use Rattle.session.specs.State.{last, code_number, told, leave, stop, take}
use Rattle.line.specs.Line.{is_interval, later, is_live, is_held_line}
use Rattle.line.specs.Tick.{most_time, wait, reached, due_by, due_live, due_at, id_of, own_act, numbered as sent, tick_by, tick}
use Rattle.capi.proofs.GivenLaws.{Given, nothing, heartbeat, logout, gap-fill, resend-request}
use Rattle.capi.specs.declared.shape.CLine.{CLine}
use Rattle.capi.specs.declared.shape.CSend.{CSend}
use Rattle.capi.specs.declared.shape.CSession.{CSession}
use Rattle.capi.specs.Arising.{Arises, ArisesByTick}
use Rattle.capi.specs.Lines.{is_line, act_send, shown_ticked, tick_c}
use Rattle.capi.specs.Sessions.{session_in, is_session, to_send, send_test_request, send_bare_heartbeat, is_send, shown_send}
use Rattle.capi.proofs.GivenSends.{Shows, shows, tests, beats, passes-shows}

-- a message for us, not sent before
abbrev says : ℕ → Content → Message
says n c = record { number = n; possdup = false; ours = true; content = c }

module _ (ours : List ℕ) (plain : is_plain_comp_id ours ≡ true) where
  -- Live, with nothing asked for
  abbrev live_at : ℕ → ℕ → CSession
  live_at e o = record { state = 2; ours = ours; expected = e; own = o; ahead = 0; repeats = 0 }

  live-passes : (e o : ℕ) → 1 ≤ e → 2 ≤ o → is_session (live_at e o) ≡ true
  unfolding is_session is_held least_own is_ahead
  live-passes e o a b = rw (plain, le-leb 1 e a, le-leb 2 o b)

  arises-as : (e o n : ℕ) (c : Content) (y : Send) → 1 ≤ e → e ≤ last → 2 ≤ o → o ≤ last → n ≤ last
      → (ruled (session_in (live_at e o)) (says n c)).answer.first ≡ y → Arises (shown_send y)
  arises-as e o n c y a b d f g h = record {
    session = live_at e o;
    message = says n c;
    passes = live-passes e o a d;
    expected = b;
    own = f;
    number = g;
    given = sym (ap shown_send h);
  }

  -- the rules, on the first message that is due
  gives_nothing : (ruled (session_in (live_at 1 2)) (says 1 content.Heartbeat)).answer.first ≡ Nothing
  unfolding state_at ruled ruled_in for_us live numbered equal take
  gives_nothing = refl

  gives-heartbeat : (n id : ℕ) → n < last → (ruled (session_in (live_at 1 n)) (says 1 (content.TestRequest id))).answer.first ≡ Heartbeat n id
  unfolding state_at ruled ruled_in for_us live numbered equal test_request take
  gives-heartbeat n id l = rw (ne_eqb n last (λ e. omega arith))

  gives-logout : (n : ℕ) → n < last → (ruled (session_in (live_at 1 n)) (says 1 content.Lookup)).answer.first ≡ Logout n
  unfolding state_at ruled ruled_in for_us live stop leave
  gives-logout n l = rw (lt-ltb n last l)

  gives-fill : (first new : ℕ) → 1 ≤ first → first < new
      → (ruled (session_in (live_at 1 new)) (says 1 (content.ResendRequest first 0))).answer.first ≡ GapFill first new
  unfolding state_at ruled ruled_in for_us live numbered equal resend_request is_bad_range fill_end take
  gives-fill first new a l = rw (ne_eqb first 0 (λ e. omega arith), lt-leb new first l)

  -- and on one with the number after it
  gives-request : (n start : ℕ) → n < last → (ruled (session_in (live_at start n)) (says (start + 1) content.Heartbeat)).answer.first ≡ ResendRequest n start 0
  unfolding state_at ruled ruled_in for_us live numbered higher ask request slots told
  gives-request n start l =
      let a : ltb (start + 1) start ≡ false = le-ltb (start + 1) start (omega arith) in
      let b : ltb start (start + 1) ≡ true = lt-ltb start (start + 1) (omega arith) in
      rw (a, b, ne_eqb n last (λ e. omega arith))

  given-arises : {y : Send} → Given y → (told y).first ≤ last → Arises (shown_send y)
  unfolding told
  given-arises nothing w = arises-as 1 2 1 content.Heartbeat Nothing (omega arith) (omega arith) (omega arith) (omega arith) (omega arith) gives_nothing
  given-arises (heartbeat {n = n} {id = id} a b c) w =
      arises-as 1 n 1 (content.TestRequest id) (Heartbeat n id) (omega arith) (omega arith) a (omega arith) (omega arith) (gives-heartbeat n id b)
  given-arises (logout {n = n} a b) w =
      arises-as 1 n 1 content.Lookup (Logout n) (omega arith) (omega arith) a (omega arith) (omega arith) (gives-logout n b)
  given-arises (gap-fill {first = first} {new = new} a b) w =
      arises-as 1 new 1 (content.ResendRequest first 0) (GapFill first new) (omega arith) (omega arith) (omega arith) w (omega arith) (gives-fill first new a b)
  given-arises (resend-request {n = n} {start = start} a b c d) w =
      arises-as start n (start + 1) content.Heartbeat (ResendRequest n start 0) c (omega arith) a (omega arith) (omega arith) (gives-request n start b)

  -- a Live line that began at time 0, with an interval of a second: at one second a Heartbeat is due, and at two a Test Request
  abbrev line_at : ℕ → CLine
  line_at o = record { session = live_at 1 o; interval = 1; tested = 0; now = 0; sent = 0; heard = 0 }

  line-passes : (o : ℕ) → 2 ≤ o → is_line (line_at o) ≡ true
  unfolding is_line is_held_line is_interval is_live state_at
  line-passes o a = rw (live-passes 1 o (omega arith) a) refl

  gives-test : (n : ℕ) → 2 ≤ n → n < last → (tick_c (line_at n) 2000).send ≡ to_send send_test_request n (id_of n) 0
  unfolding tick_c shown_ticked act_send tick tick_by due_at due_live due_by reached wait later sent own_act own_number own_number_in is_live state_at code_number
  gives-test n a b = rw (line-passes n a, ne_eqb n last (λ e. omega arith)) refl

  gives-beat : (n : ℕ) → 2 ≤ n → n < last → (tick_c (line_at n) 1000).send ≡ to_send send_bare_heartbeat n 0 0
  unfolding tick_c shown_ticked act_send tick tick_by due_at due_live due_by reached wait later sent own_act own_number own_number_in is_live state_at code_number
  gives-beat n a b = rw (line-passes n a, ne_eqb n last (λ e. omega arith)) refl

  ticks-as : (x : CSend) (n t : ℕ) → 2 ≤ n → n < last → t ≤ most_time → x ≡ (tick_c (line_at n) t).send → ArisesByTick x
  ticks-as x n t a b c e = record { line = line_at n; time = t; passes = line-passes n a; own = omega arith; within = c; given = e }

  -- every message to send of 32-bit numbers that passes
  pub send-arises : (x : CSend) → is_send x ≡ true → x.first ≤ last → Arises x ⊎ ArisesByTick x
  unfolding shown_send
  send-arises x i w = go (passes-shows x i)
    where
      go : Shows x → Arises x ⊎ ArisesByTick x
      go (shows y g e) = inl (subst Arises (sym e) (given-arises g (subst (λ (z : CSend). z.first ≤ last) e w)))
      go (tests {n = n} a b e) = inr (ticks-as x n 2000 a b (omega arith) (e ∙ sym (gives-test n a b)))
      go (beats {n = n} a b e) = inr (ticks-as x n 1000 a b (omega arith) (e ∙ sym (gives-beat n a b)))
