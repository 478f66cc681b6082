-- A call of many messages that is not refused: each message to send in its list, as C reads it there, passes the check of `is_send`.
use Prim.Native.Nat.{ℕ, zero, suc, ◌*◌, ◌<◌, ◌≤◌}
use mathlib.Core.Path.{◌≡◌, refl, ap, ◌∙◌}
use mathlib.Core.Bool.{true}
use mathlib.Core.List.{List, [], ◌∷◌, ◌++◌}
use native.Mathlib.Omega.{arith}
use lib.ListN.{length, get_or, drop}
use borrow.Author.Tests.{le-leb}
use Rattle.std.specs.Prelude.{Option, None}
use Rattle.wire.specs.Laying.{laid}
use Rattle.wire.specs.Number.{Bytes}
use Rattle.wire.proofs.TestLaws.{either}
use Rattle.message.specs.Refusal.{number_of}
use Rattle.session.specs.declared.state.Fault.{Fault}
use Rattle.session.specs.declared.state.Send.{Send}
use Rattle.session.specs.declared.state.Send.TheVariants.{Nothing}
use Rattle.session.specs.declared.state.State.{State}
use Rattle.session.specs.declared.state.State.TheVariants.{Down, Waiting, Live}
use Rattle.session.specs.State.{last, halt_number, code_number}
use Rattle.calls.specs.Steps.{send_numbers, course, has_room, refusal_in, called_by, called, slots_by, report_of, steps, sends_after}
use Rattle.calls.proofs.CallLaws.{waiting-up, live-up}
use Rattle.calls.proofs.SingleLaws.{course-sends}
use Rattle.capi.specs.declared.shape.CSession.{CSession}
use Rattle.capi.specs.Entries.{send_front, send_at}
use Rattle.capi.specs.Sessions.{session_in, is_session, is_send, shown_send}
use Rattle.capi.specs.Steps.{shown_done, steps_c, sends_c}
use Rattle.capi.proofs.GivenSends.{call_passes}

-- where the numbers of messages to send stand
numbers-at : (xs : List Send) (r : List ℕ) (k : ℕ) → k < length xs → send_at (send_numbers xs ++ r) k ≡ shown_send (get_or xs k Nothing)
unfolding send_at send_front send_numbers shown_send
numbers-at [] r k h = absurd (omega arith)
numbers-at (x ∷ xs) r zero h = refl
numbers-at (x ∷ xs) r (suc k) h =
    let e : 4 * suc k ≡ suc (suc (suc (suc (4 * k)))) = omega arith in
    ap (λ (i : ℕ). send_front (drop i (send_numbers (x ∷ xs) ++ r))) e ∙ numbers-at xs r k (omega arith)

laid-at : (xs : List Send) (d : List ℕ) (k : ℕ) → length (send_numbers xs) ≤ length d → k < length xs
    → send_at (laid (send_numbers xs) d) k ≡ shown_send (get_or xs k Nothing)
unfolding laid
laid-at xs d k l h = rw (le-leb (length (send_numbers xs)) (length d) l) (numbers-at xs (drop (length (send_numbers xs)) d) k h)

-- a call that is not refused is on a session that is not Down
accepted : (r q : ℕ) (p : State) → code_number (refusal_in p r q) ≡ 0 → (refusal_in p r q ≡ None) × (p ≡ Down → ⊥)
unfolding refusal_in code_number halt_number number_of
accepted r q Down z = absurd (omega arith)
accepted r q Waiting z =
    (either (λ (k : Option Fault). code_number k ≡ 0 → k ≡ None) (has_room r q) (λ t y. refl) (λ t y. absurd (omega arith)) z, waiting-up refl)
accepted r q Live z = (either (λ (k : Option Fault). code_number k ≡ 0 → k ≡ None) (has_room r q) (λ t y. refl) (λ t y. absurd (omega arith)) z, live-up refl)

module _ (c : CSession) (h : is_session c ≡ true) (s rows sends : List ℕ) (z : (steps_c c s (length rows) (length sends)).refusal ≡ 0) where
  given : List Send
  given = (called (session_in c) s (length rows) (length sends)).sends

  good : (refusal_in (session_in c).state (length rows) (length sends) ≡ None) × ((session_in c).state ≡ Down → ⊥)
  unfolding steps_c shown_done steps report_of
  good = accepted (length rows) (length sends) (session_in c).state (rw h at z)

  counted : (steps_c c s (length rows) (length sends)).sends ≡ length given
  unfolding steps_c shown_done steps report_of slots_by given
  counted = rw h (ap (λ (k : Option Fault). slots_by k (length given) 2) good.0)

  fitting : length (send_numbers given) ≤ length sends
  unfolding given called called_by
  fitting =
      let e : length (send_numbers given) ≡ length (send_numbers (course 0 (length rows) (length sends) (session_in c) s).sends) =
      ap (λ (k : Option Fault). length (send_numbers (called_by k (session_in c) s (length rows) (length sends)).sends)) good.0 in
      omega (arith, e, course-sends 0 (length rows) (length sends) (session_in c) s good.1)

  pub entry-passes : c.own ≤ last → Bytes s → (k : ℕ) → k < (steps_c c s (length rows) (length sends)).sends
      → is_send (send_at (sends_c c s rows sends) k) ≡ true
  unfolding sends_c sends_after given
  entry-passes l bytes k i =
      rw h (ap is_send (laid-at given sends k fitting (omega (arith, counted))) ∙ call_passes c h l s bytes (length rows) (length sends) k)
