-- Connect's Logon, as C has it: where Connect is not refused, its Logon is laid down or refused with 11, and it bears the number and the Next Expected
-- that Connect told.
use Prim.Native.Nat.{ℕ, ◌+◌, ◌-◌, ◌≤◌}
use mathlib.Core.Path.{◌≡◌, refl, sym, ap, subst, ◌∙◌}
use mathlib.Core.Bool.{Bool, true, false}
use mathlib.Core.List.{List}
use mathlib.Core.Logic.{◌⊎◌}
use native.Mathlib.Omega.{arith}
use lib.Dec.{eqb}
use lib.ListN.{length}
use Rattle.std.specs.Prelude.{Ok, Some, None}
use Rattle.wire.specs.declared.text.Allowed.TheVariants.{Ascii}
use Rattle.wire.specs.Text.{fixed_part}
use Rattle.wire.proofs.TestLaws.{either}
use Rattle.tables.specs.Dictionary.{entry, sort_of, width_of}
use Rattle.message.specs.declared.refusal.Refusal.TheVariants.{BadField}
use Rattle.message.specs.Refusal.{number_of}
use Rattle.message.specs.Vet.{good_comp_id}
use Rattle.session.specs.declared.day.Connected.{Connected}
use Rattle.session.specs.declared.state.Fault.TheVariants.{Refused}
use Rattle.session.specs.declared.state.Session.{Session}
use Rattle.session.specs.declared.state.State.{State}
use Rattle.session.specs.declared.state.State.TheVariants.{Down, Waiting, Live}
use Rattle.session.specs.Day.{not_connected, connect_in, connect}
use Rattle.session.specs.Held.{state_at}
use Rattle.session.specs.State.{last, halt_number, code_number, moved}
use Rattle.writer.specs.Send.{logon, logon_of, logon_sent}
use Rattle.writer.proofs.SizeLaws.{logon-written}
use Rattle.capi.specs.declared.shape.CConnected.{CConnected}
use Rattle.capi.specs.declared.shape.CSession.{CSession}
use Rattle.capi.specs.declared.shape.CWritten.{CWritten}
use Rattle.capi.specs.Sessions.{shown_session, session_in, is_session, shown_connected, connect_c, logon_c, logon_sent_c}
use Rattle.capi.specs.Sizes.{logon_size, by_room}
use Rattle.capi.specs.Writing.{shown_written}
use Rattle.capi.proofs.GivenSends.{room-refuses, room-takes, sent-by-room, comp-id-good}
use Rattle.capi.proofs.SessionLaws.{own-counted, connect-passes}

-- a Connect that is not refused: the session waits, and as the text writer takes the password, the Logon is good
abbrev waits : Session → Connected
waits s = record { session = moved s Waiting s.expected (s.own + 1) 0; code = None; number = s.own; next = s.expected }

abbrev LaidBy : List ℕ → Type 0
LaidBy password = (n next : ℕ) (comp_id d : List ℕ) → 1 ≤ n → good_comp_id comp_id ≡ true → shown_written (logon_of n password next comp_id d) ≡ by_room logon_size (length d)

record Connects (s : Session) (password : List ℕ) (r : Connected) : Type 0 where
  laid : LaidBy password
  told : r ≡ waits s

connect-in-good : (p : State) (s : Session) (password : List ℕ) → code_number (connect_in p s password).code ≡ 0 → Connects s password (connect_in p s password)
unfolding connect_in not_connected code_number halt_number number_of logon_of entry sort_of width_of
connect-in-good Down s password =
    let P : Connected → Type 0 = λ r. code_number r.code ≡ 0 → Connects s password r in
    either P (eqb s.own last) (λ t z. absurd (omega arith))
    (λ t. either P _ {y = not_connected s (Some (Refused (BadField 0)))}
    (λ u z. record {
      laid = λ n next comp_id d h g.
          let w : (y : List ℕ) → 512 ≤ length y → logon_of n password next comp_id y ≡ Ok 512 = λ y r. logon-written n h comp_id g y password next u r in
          rw u (sent-by-room (logon n password next) comp_id logon_size (λ y r. rw u at (w y r)) d);
      told = refl;
    })
    (λ u z. absurd (omega arith)))
connect-in-good Waiting s password = λ z. absurd (omega arith)
connect-in-good Live s password = λ z. absurd (omega arith)

module _ (c : CSession) (password : List ℕ) (z : (connect_c c password).refusal ≡ 0) where
  passes : is_session c ≡ true
  unfolding connect_c halt_number
  passes = go (is_session c) refl
    where
      go : (b : Bool) → is_session c ≡ b → b ≡ true
      go true p = refl
      go false p = let y : ◌≡◌ {A = ℕ} 90 0 = rw p at z in absurd (omega arith)

  connects : Connects (session_in c) password (connect (session_in c) password)
  unfolding connect_c shown_connected connect
  connects = connect-in-good (state_at c.state) (session_in c) password (rw passes at z)

  shown-told : connect_c c password ≡ shown_connected (waits (session_in c))
  unfolding connect_c
  shown-told = rw passes (ap shown_connected connects.told)

  -- it tells the number and the Next Expected
  pub connect-tells : ((connect_c c password).number ≡ c.own) × ((connect_c c password).next ≡ c.expected)
  unfolding shown_connected
  connect-tells = let t = shown-told in (ap (λ (x : CConnected). x.number) t, ap (λ (x : CConnected). x.next) t)

  waiting-passes : is_session (shown_session (waits (session_in c)).session) ≡ true
  unfolding shown_connected
  waiting-passes = subst (λ (x : CConnected). is_session x.session ≡ true) shown-told (connect-passes c passes password)

  back : c.own + 1 - 1 ≡ c.own
  back = omega arith

  module _ (d : List ℕ) where
    -- these are what the Logon bears
    waiting-answers : logon_c (shown_session (waits (session_in c)).session) password d
        ≡ shown_written (logon_of c.own password c.expected (fixed_part Ascii 12 c.ours) d)
    unfolding logon_c
    waiting-answers = rw waiting-passes (ap (λ (n : ℕ). shown_written (logon_of n password c.expected (fixed_part Ascii 12 c.ours) d)) back)

    waiting-lays : logon_sent_c (shown_session (waits (session_in c)).session) password d ≡ logon_sent c.own password c.expected (fixed_part Ascii 12 c.ours) d
    unfolding logon_sent_c
    waiting-lays = rw waiting-passes (ap (λ (n : ℕ). logon_sent n password c.expected (fixed_part Ascii 12 c.ours) d) back)

    pub logon-answers : logon_c (connect_c c password).session password d
        ≡ shown_written (logon_of (connect_c c password).number password (connect_c c password).next (fixed_part Ascii 12 c.ours) d)
    unfolding shown_connected
    logon-answers =
        subst (λ (x : CConnected). logon_c x.session password d ≡ shown_written (logon_of x.number password x.next (fixed_part Ascii 12 c.ours) d))
        (sym shown-told) waiting-answers

    pub logon-lays : logon_sent_c (connect_c c password).session password d
        ≡ logon_sent (connect_c c password).number password (connect_c c password).next (fixed_part Ascii 12 c.ours) d
    unfolding shown_connected
    logon-lays =
        subst (λ (x : CConnected). logon_sent_c x.session password d ≡ logon_sent x.number password x.next (fixed_part Ascii 12 c.ours) d)
        (sym shown-told) waiting-lays

    -- it is laid down in a buffer that has its length, and else refused with 11
    pub logon-by-room : logon_c (connect_c c password).session password d ≡ by_room logon_size (length d)
    unfolding shown_connected
    logon-by-room =
        ap (λ (x : CConnected). logon_c x.session password d) shown-told ∙ waiting-answers
        ∙ connects.laid c.own c.expected (fixed_part Ascii 12 c.ours) d (own-counted c passes) (comp-id-good c passes)

    pub logon-laid : ((logon_c (connect_c c password).session password d).refusal ≡ 0) ⊎ ((logon_c (connect_c c password).session password d).refusal ≡ 11)
    logon-laid = subst (λ (w : CWritten). (w.refusal ≡ 0) ⊎ (w.refusal ≡ 11)) (sym logon-by-room) (room-refuses logon_size (length d))

    pub logon-enough : 512 ≤ length d → (logon_c (connect_c c password).session password d).refusal ≡ 0
    unfolding entry sort_of width_of
    logon-enough r = ap (λ (w : CWritten). w.refusal) logon-by-room ∙ room-takes logon_size (length d) r
