-- The messages to send that steps give, as C has them: each passes the check of `is_send`, and what passes is laid down for any session that passes,
-- or refused with 11 where the buffer is shorter, and with nothing else.
use Prim.Native.Nat.{ℕ, ◌<◌, ◌≤◌}
use mathlib.Core.Path.{◌≡◌, refl, sym, ap, ap₂, subst, ◌∙◌}
use mathlib.Core.Bool.{Bool, true, false, cond, ◌&&◌, true≢false}
use mathlib.Core.List.{List}
use mathlib.Core.Logic.{◌⊎◌, inl, inr}
use native.Mathlib.Nat.{le_of_eq}
use native.Mathlib.Omega.{arith}
use lib.Dec.{eqb, leb, ltb}
use lib.ListN.{length, get_or, replicate, length-replicate}
use borrow.Author.Tests.{le-leb, lt-ltb, eq-eqb, leb-true, ltb-true, eqb-true}
use Rattle.std.specs.Prelude.{Result, Ok, Err}
use Rattle.wire.specs.declared.text.Allowed.TheVariants.{Ascii}
use Rattle.wire.specs.Number.{Bytes}
use Rattle.wire.specs.Text.{fixed_part}
use Rattle.wire.proofs.TestLaws.{and-true, both, either}
use Rattle.message.specs.declared.refusal.Refusal.{Refusal}
use Rattle.message.specs.declared.refusal.Refusal.TheVariants.{NoRoom}
use Rattle.message.specs.Refusal.{number_of, besides_of}
use Rattle.message.specs.Vet.{good_comp_id}
use Rattle.session.specs.declared.state.Send.{Send}
use Rattle.session.specs.declared.state.Send.TheVariants.{Nothing, Heartbeat, Logout, GapFill, ResendRequest}
use Rattle.session.specs.Held.{is_plain_comp_id}
use Rattle.session.specs.State.{last, most_id, told}
use Rattle.calls.specs.Steps.{called}
use Rattle.line.specs.Tick.{id_of}
use Rattle.capi.proofs.GivenCalls.{call-gives}
use Rattle.capi.proofs.GivenLaws.{Given, nothing, heartbeat, logout, gap-fill, resend-request, step_gives}
use Rattle.writer.specs.Send.{Outgoing, send_of}
use Rattle.writer.specs.Write.{write_length, write_vetted, write_of}
use Rattle.writer.proofs.GoodLaws.{WroteGood, wrote-good}
use Rattle.writer.proofs.SizeLaws.{heartbeat-written, heartbeat-for-written, test-request-written, logout-written, gap-fill-written, resend-request-written}
use Rattle.capi.specs.declared.shape.CSend.{CSend}
use Rattle.capi.specs.declared.shape.CSession.{CSession}
use Rattle.capi.specs.declared.shape.CWritten.{CWritten}
use Rattle.capi.specs.Sessions.{session_in, is_session, to_send, shown_send, shown_stepped, step_c, is_our_number, send_test_request, send_bare_heartbeat, is_send, outgoing_of, send_by, send_c}
use Rattle.capi.specs.Sizes.{send_size, by_room}
use Rattle.capi.specs.Writing.{wrote, shown_written}
use Rattle.capi.proofs.SessionLaws.{checked, standing-in, step-passes}

-- what can be given passes
given-passes : {y : Send} → Given y → is_send (shown_send y) ≡ true
unfolding is_send shown_send told is_our_number
given-passes nothing = refl
given-passes (heartbeat {n = n} {id = id} a b c) = rw (le-leb 2 n a, lt-ltb n last b, le-leb id most_id c)
given-passes (logout {n = n} a b) = rw (le-leb 2 n a, lt-ltb n last b)
given-passes (gap-fill {first = first} {new = new} a b) = rw (le-leb 1 first a, lt-ltb first new b)
given-passes (resend-request {n = n} {start = start} a b c d) = rw (le-leb 2 n a, lt-ltb n last b, le-leb 1 start c, lt-ltb start last d)

-- and what passes is shown of one that a step can give, or is one of the two that a tick gives
pub data Shows (x : CSend) : Type 0 where
  shows : (y : Send) → Given y → x ≡ shown_send y → Shows x
  tests : {n : ℕ} → 2 ≤ n → n < last → x ≡ to_send send_test_request n (id_of n) 0 → Shows x
  beats : {n : ℕ} → 2 ≤ n → n < last → x ≡ to_send send_bare_heartbeat n 0 0 → Shows x

module _ (x : CSend) where
  same : (kind n first second : ℕ) → x.kind ≡ kind → x.number ≡ n → x.first ≡ first → x.second ≡ second → x ≡ to_send kind n first second
  same kind n first second a b c d =
      ap₂ (λ (k m : ℕ). to_send k m x.first x.second) a b ∙ ap₂ (λ (i j : ℕ). to_send kind n i j) c d

  ours : is_our_number x.number ≡ true → (2 ≤ x.number) × (x.number < last)
  unfolding is_our_number
  ours h = let p = and-true (leb 2 x.number) (ltb x.number last) h in (leb-true 2 x.number p.0, ltb-true x.number last p.1)

  pub passes-shows : is_send x ≡ true → Shows x
  unfolding is_send shown_send told
  passes-shows =
      let P : Bool → Type 0 = λ b. b ≡ true → Shows x in
      either P (eqb x.kind 0)
      (λ k h. let p = and-true _ (eqb x.second 0) h in
      let q = and-true (eqb x.number 0) (eqb x.first 0) p.0 in
      shows Nothing nothing (same 0 0 0 0 (eqb-true x.kind 0 k) (eqb-true x.number 0 q.0) (eqb-true x.first 0 q.1) (eqb-true x.second 0 p.1)))
      (λ z. either P (eqb x.kind 1)
      (λ k h. let p = and-true _ (eqb x.second 0) h in
      let q = and-true (is_our_number x.number) (leb x.first most_id) p.0 in
      let n = ours q.0 in
      shows (Heartbeat x.number x.first) (heartbeat n.0 n.1 (leb-true x.first most_id q.1))
      (same 1 x.number x.first 0 (eqb-true x.kind 1 k) refl refl (eqb-true x.second 0 p.1)))
      (λ z. either P (eqb x.kind 2)
      (λ k h. let p = and-true _ (eqb x.second 0) h in
      let q = and-true (is_our_number x.number) (eqb x.first 0) p.0 in
      let n = ours q.0 in
      shows (Logout x.number) (logout n.0 n.1)
      (same 2 x.number 0 0 (eqb-true x.kind 2 k) refl (eqb-true x.first 0 q.1) (eqb-true x.second 0 p.1)))
      (λ z. either P (eqb x.kind 3)
      (λ k h. let p = and-true _ (eqb x.second 0) h in
      let q = and-true (leb 1 x.number) (ltb x.number x.first) p.0 in
      shows (GapFill x.number x.first) (gap-fill (leb-true 1 x.number q.0) (ltb-true x.number x.first q.1))
      (same 3 x.number x.first 0 (eqb-true x.kind 3 k) refl refl (eqb-true x.second 0 p.1)))
      (λ z. either P (eqb x.kind 4)
      (λ k h. let p = and-true _ (eqb x.second 0) h in
      let q = and-true (is_our_number x.number) (leb 1 x.first && ltb x.first last) p.0 in
      let r = and-true (leb 1 x.first) (ltb x.first last) q.1 in
      let n = ours q.0 in
      shows (ResendRequest x.number x.first 0)
      (resend-request n.0 n.1 (leb-true 1 x.first r.0) (ltb-true x.first last r.1))
      (same 4 x.number x.first 0 (eqb-true x.kind 4 k) refl refl (eqb-true x.second 0 p.1)))
      (λ z. either P (eqb x.kind 5)
      (λ k h. let p = and-true _ (eqb x.second 0) h in
      let q = and-true (is_our_number x.number) (eqb x.first (id_of x.number)) p.0 in
      let n = ours q.0 in
      tests n.0 n.1
      (same 5 x.number (id_of x.number) 0 (eqb-true x.kind 5 k) refl (eqb-true x.first (id_of x.number) q.1) (eqb-true x.second 0 p.1)))
      (λ z. either P (eqb x.kind 6)
      (λ k h. let p = and-true _ (eqb x.second 0) h in
      let q = and-true (is_our_number x.number) (eqb x.first 0) p.0 in
      let n = ours q.0 in
      beats n.0 n.1
      (same 6 x.number 0 0 (eqb-true x.kind 6 k) refl (eqb-true x.first 0 q.1) (eqb-true x.second 0 p.1)))
      (λ z h. absurd (true≢false (sym h)))))))))

-- a Test Request and a Heartbeat without ID that bear a number of ours pass
module _ (n : ℕ) (a : 2 ≤ n) (b : n < last) where
  pub test-passes : is_send (to_send send_test_request n (id_of n) 0) ≡ true
  unfolding is_send is_our_number
  test-passes = rw (le-leb 2 n a, lt-ltb n last b, eq-eqb (id_of n) (id_of n) refl)

  pub beat-passes : is_send (to_send send_bare_heartbeat n 0 0) ≡ true
  unfolding is_send is_our_number
  beat-passes = rw (le-leb 2 n a, lt-ltb n last b)

-- every message to send that a step gives passes, and each of a call of many
module _ (c : CSession) (h : is_session c ≡ true) (l : c.own ≤ last) (s : List ℕ) (bytes : Bytes s) where
  pub first_passes : is_send (step_c c s).first ≡ true
  unfolding step_c shown_stepped
  first_passes = rw h (given-passes (step_gives (session_in c) (standing-in c (checked c h)) l s bytes).first)

  pub second-passes : is_send (step_c c s).second ≡ true
  unfolding step_c shown_stepped
  second-passes = rw h (given-passes (step_gives (session_in c) (standing-in c (checked c h)) l s bytes).second)

  pub call_passes : (r q k : ℕ) → is_send (shown_send (get_or (called (session_in c) s r q).sends k Nothing)) ≡ true
  call_passes r q k = given-passes (call-gives (session_in c) (standing-in c (checked c h)) l s bytes r q k)

-- the room is all that is left to refuse
pub room-refuses : (n room : ℕ) → ((by_room n room).refusal ≡ 0) ⊎ ((by_room n room).refusal ≡ 11)
unfolding by_room number_of
room-refuses n room = either (λ (w : CWritten). (w.refusal ≡ 0) ⊎ (w.refusal ≡ 11)) (leb n room) (λ t. inl refl) (λ t. inr refl)

pub room-takes : (n room : ℕ) → n ≤ room → (by_room n room).refusal ≡ 0
unfolding by_room
room-takes n room h = rw (le-leb n room h)

-- what the writer lays down wherever there is room for n bytes
module _ (x : Outgoing) (comp_id : List ℕ) (n : ℕ) (w : (z : List ℕ) → n ≤ length z → send_of x comp_id z ≡ Ok n) where
  lengthy : WroteGood x.head comp_id x.map x.body n
  unfolding send_of
  lengthy =
      let z : List ℕ = replicate n 0 in
      wrote-good x.head comp_id x.map x.body z n (w z (le_of_eq (sym (length-replicate n 0))))

  shown : (b : Bool) → shown_written (cond b (Ok n) (Err (NoRoom n))) ≡ cond b (wrote 0 0 n) (wrote (number_of (NoRoom n)) n 0)
  unfolding shown_written besides_of
  shown true = refl
  shown false = refl

  pub sent-by-room : (d : List ℕ) → shown_written (send_of x comp_id d) ≡ by_room n (length d)
  unfolding send_of write_of write_vetted write_length by_room
  sent-by-room d =
      let g = lengthy in
      ap (λ (v : Result ℕ Refusal). shown_written (write_vetted (length d) v)) g.good
      ∙ ap (λ (k : ℕ). shown_written (write_length k (length d))) (sym g.size)
      ∙ shown (leb n (length d))

-- a session that passes has a good Comp ID
pub comp-id-good : (c : CSession) → is_session c ≡ true → good_comp_id (fixed_part Ascii 12 c.ours) ≡ true
unfolding is_plain_comp_id
comp-id-good c h = (both (good_comp_id (fixed_part Ascii 12 c.ours)) _ (checked c h).plain).0

size-within : (kind : ℕ) → send_size kind ≤ 66
unfolding send_size
size-within kind =
    let P : ℕ → Type 0 = λ n. n ≤ 66 in
    either P (eqb kind 0) (λ t. omega arith)
    (λ t. either P (eqb kind 1) (λ u. omega arith)
    (λ u. either P (eqb kind 2) (λ v. omega arith)
    (λ v. either P (eqb kind 3) (λ w. omega arith)
    (λ w. either P (eqb kind 5) (λ i. omega arith) (λ i. either P (eqb kind 6) (λ j. omega arith) (λ j. omega arith))))))

module _ (c : CSession) (h : is_session c ≡ true) where
  abbrev comp_id : List ℕ
  comp_id = fixed_part Ascii 12 c.ours

  sent-as : (x : CSend) → is_send x ≡ true → eqb x.kind 0 ≡ false → (n : ℕ) → ((z : List ℕ) → n ≤ length z → send_of (outgoing_of x) comp_id z ≡ Ok n)
      → (d : List ℕ) → send_c c x d ≡ by_room n (length d)
  unfolding send_c send_by
  sent-as x i k n w d = rw (h, i, k) (sent-by-room (outgoing_of x) comp_id n w d)

  sent-none : (d : List ℕ) → send_c c (to_send 0 0 0 0) d ≡ by_room 0 (length d)
  unfolding send_c send_by is_send by_room
  sent-none d = rw (h, le-leb 0 (length d) (omega arith))

  given-by-room : {y : Send} → Given y → (d : List ℕ) → send_c c (shown_send y) d ≡ by_room (send_size (shown_send y).kind) (length d)
  unfolding shown_send told outgoing_of send_size
  given-by-room nothing d = sent-none d
  given-by-room (heartbeat {n = n} {id = id} a b e) d =
      sent-as (to_send 1 n id 0) (given-passes (heartbeat a b e)) refl 60 (λ z. heartbeat-for-written n (omega arith) comp_id (comp-id-good c h) z id) d
  given-by-room (logout {n = n} a b) d =
      sent-as (to_send 2 n 0 0) (given-passes (logout a b)) refl 58 (λ z. logout-written n (omega arith) comp_id (comp-id-good c h) z) d
  given-by-room (gap-fill {first = first} {new = new} a b) d =
      sent-as (to_send 3 first new 0) (given-passes (gap-fill a b)) refl 63 (λ z. gap-fill-written first a comp_id (comp-id-good c h) z new) d
  given-by-room (resend-request {n = n} {start = start} a b e f) d =
      sent-as (to_send 4 n start 0) (given-passes (resend-request a b e f)) refl 66 (λ z. resend-request-written n (omega arith) comp_id (comp-id-good c h) z start 0) d

  test-by-room : (n : ℕ) → 2 ≤ n → n < last → (d : List ℕ) → send_c c (to_send send_test_request n (id_of n) 0) d ≡ by_room (send_size send_test_request) (length d)
  unfolding outgoing_of send_size
  test-by-room n a b d =
      sent-as (to_send 5 n (id_of n) 0) (test-passes n a b) refl 60 (λ z. test-request-written n (omega arith) comp_id (comp-id-good c h) z (id_of n)) d

  beat-by-room : (n : ℕ) → 2 ≤ n → n < last → (d : List ℕ) → send_c c (to_send send_bare_heartbeat n 0 0) d ≡ by_room (send_size send_bare_heartbeat) (length d)
  unfolding outgoing_of send_size
  beat-by-room n a b d = sent-as (to_send 6 n 0 0) (beat-passes n a b) refl 58 (λ z. heartbeat-written n (omega arith) comp_id (comp-id-good c h) z) d

  -- what passes is laid down in a buffer that has its length, and else refused with 11
  module _ (x : CSend) (i : is_send x ≡ true) (d : List ℕ) where
    pub send-by-room : send_c c x d ≡ by_room (send_size x.kind) (length d)
    send-by-room = go (passes-shows x i)
      where
        go : Shows x → send_c c x d ≡ by_room (send_size x.kind) (length d)
        go (shows y g e) = subst (λ (z : CSend). send_c c z d ≡ by_room (send_size z.kind) (length d)) (sym e) (given-by-room g d)
        go (tests {n = n} a b e) = subst (λ (z : CSend). send_c c z d ≡ by_room (send_size z.kind) (length d)) (sym e) (test-by-room n a b d)
        go (beats {n = n} a b e) = subst (λ (z : CSend). send_c c z d ≡ by_room (send_size z.kind) (length d)) (sym e) (beat-by-room n a b d)

    pub send-laid : ((send_c c x d).refusal ≡ 0) ⊎ ((send_c c x d).refusal ≡ 11)
    send-laid =
        subst (λ (w : CWritten). (w.refusal ≡ 0) ⊎ (w.refusal ≡ 11)) (sym send-by-room) (room-refuses (send_size x.kind) (length d))

    -- 66 bytes are enough for each
    pub send-enough : 66 ≤ length d → (send_c c x d).refusal ≡ 0
    send-enough r =
        let l = size-within x.kind in
        ap (λ (w : CWritten). w.refusal) send-by-room ∙ room-takes (send_size x.kind) (length d) (omega arith)

-- so the messages that a step gives are laid down for the session that it leaves, or refused with 11
module _ (c : CSession) (h : is_session c ≡ true) (l : c.own ≤ last) (s : List ℕ) (bytes : Bytes s) (d : List ℕ) where
  pub first-laid : ((send_c (step_c c s).session (step_c c s).first d).refusal ≡ 0) ⊎ ((send_c (step_c c s).session (step_c c s).first d).refusal ≡ 11)
  first-laid = send-laid (step_c c s).session (step-passes c h s) (step_c c s).first (first_passes c h l s bytes) d

  pub second-laid : ((send_c (step_c c s).session (step_c c s).second d).refusal ≡ 0) ⊎ ((send_c (step_c c s).session (step_c c s).second d).refusal ≡ 11)
  second-laid = send-laid (step_c c s).session (step-passes c h s) (step_c c s).second (second-passes c h l s bytes) d
