-- A call of many messages, as the code answers it: refused, or by its turns. And what every step keeps, it keeps.
use Prim.Native.Nat.{ℕ, zero, suc, ◌+◌, ◌*◌}
use mathlib.Core.Path.{◌≡◌, refl, sym, ap, subst, ◌∙◌}
use mathlib.Core.Bool.{Bool, true, false, cond}
use mathlib.Core.List.{List, []}
use native.Mathlib.Omega.{arith}
use lib.ListN.{length, drop}
use Rattle.std.specs.Prelude.{Option, Some, None}
use Rattle.message.specs.declared.refusal.Refusal.TheVariants.{NoRoom}
use Rattle.message.specs.Frame.{front_length}
use Rattle.wire.specs.Laying.{laid}
use Rattle.session.specs.declared.state.Fault.{Fault}
use Rattle.session.specs.declared.state.Fault.TheVariants as fault
use Rattle.session.specs.declared.state.Halt.TheVariants as halt
use Rattle.session.specs.declared.state.Session.{Session}
use Rattle.session.specs.declared.state.State.{State}
use Rattle.session.specs.declared.state.State.TheVariants as state
use Rattle.calls.specs.declared.Done.{Done}
use Rattle.calls.specs.declared.Ended.{Ended}
use Rattle.calls.specs.declared.Ended.TheVariants.{Down, NoSlot}
use Rattle.session.specs.Day.{step}
use Rattle.calls.specs.Steps.{a_row, a_send, slots_by, row_numbers, send_numbers, Did, joined, course, has_room, refusal_in, called_by, called, reports, report_of, steps, rows_after, sends_after, singles}
use Rattle.calls.proofs.SingleLaws.{single-steps}
use Rattle.calls.proofs.SlotLaws.{laid_none}

pub waiting-up : {p : State} → p ≡ state.Waiting → p ≡ state.Down → ⊥
waiting-up a b = let z : ◌≡◌ {A = ℕ} 0 1 = cc in omega arith

pub live-up : {p : State} → p ≡ state.Live → p ≡ state.Down → ⊥
live-up a b = let z : ◌≡◌ {A = ℕ} 0 1 = cc in omega arith

-- the two refusals of a call
abbrev pub down : Option Fault
down = Some (fault.Halted halt.Down)

abbrev pub full : Option Fault
full = Some (fault.Refused (NoRoom (a_row + 2 * a_send)))

-- the answer x, and the lists d and e, which were d₀ and e₀
pub record Answers (s : Session) (bytes d₀ e₀ : List ℕ) (x : Done) (d e : List ℕ) : Type 0 where
  pub report : x ≡ steps s bytes (length d₀) (length e₀)
  pub rows : d ≡ rows_after s bytes d₀ e₀
  pub sends : e ≡ sends_after s bytes d₀ e₀

module _ (s : Session) (bytes d₀ e₀ : List ℕ) where
  refusal-up : (p : State) → (p ≡ state.Down → ⊥) → (b : Bool) → has_room (length d₀) (length e₀) ≡ b
      → refusal_in p (length d₀) (length e₀) ≡ cond b None full
  unfolding refusal_in
  refusal-up state.Down up b h = absurd (up refl)
  refusal-up state.Waiting up b h = ap (λ (r : Bool). cond r None full) h
  refusal-up state.Live up b h = ap (λ (r : Bool). cond r None full) h

  -- a refusal does nothing, so that the lists are as they were
  nothing : (k : Option Fault) (x : Done) → refusal_in s.state (length d₀) (length e₀) ≡ k → x ≡ report_of k (called_by k s bytes (length d₀) (length e₀))
      → (called_by k s bytes (length d₀) (length e₀)).rows ≡ [] → (called_by k s bytes (length d₀) (length e₀)).sends ≡ [] → Answers s bytes d₀ e₀ x d₀ e₀
  unfolding steps called rows_after sends_after row_numbers send_numbers
  nothing k x r p a b =
      record {
        report = p ∙ ap (λ (n : Option Fault). report_of n (called_by n s bytes (length d₀) (length e₀))) (sym r);
        rows = (laid_none _ d₀ (ap row_numbers (ap (λ (n : Option Fault). (called_by n s bytes (length d₀) (length e₀)).rows) r ∙ a))).1;
        sends = (laid_none _ e₀ (ap send_numbers (ap (λ (n : Option Fault). (called_by n s bytes (length d₀) (length e₀)).sends) r ∙ b))).1;
      }

  pub down-call : (x : Done) → s.state ≡ state.Down → x ≡ reports s down 0 0 0 false (Down down) → Answers s bytes d₀ e₀ x d₀ e₀
  unfolding refusal_in called_by report_of slots_by
  down-call x h r = nothing down x (ap (λ (p : State). refusal_in p (length d₀) (length e₀)) h) r refl refl

  pub full-call : (x : Done) → (s.state ≡ state.Down → ⊥) → has_room (length d₀) (length e₀) ≡ false → x ≡ reports s full 0 1 2 false NoSlot
      → Answers s bytes d₀ e₀ x d₀ e₀
  unfolding called_by report_of slots_by
  full-call x up h r = nothing full x (refusal-up s.state up false h) r refl refl

  pub run_call : (x : Done) (d e : List ℕ) → (s.state ≡ state.Down → ⊥) → has_room (length d₀) (length e₀) ≡ true
      → x ≡ report_of None (course 0 (length d₀) (length e₀) s bytes) → d ≡ laid (row_numbers (course 0 (length d₀) (length e₀) s bytes).rows) d₀
      → e ≡ laid (send_numbers (course 0 (length d₀) (length e₀) s bytes).sends) e₀ → Answers s bytes d₀ e₀ x d e
  unfolding steps called called_by rows_after sends_after
  run_call x d e up h a b c =
      let r = sym (refusal-up s.state up true h) in
      record {
        report = a ∙ ap (λ (n : Option Fault). report_of n (called_by n s bytes (length d₀) (length e₀))) r;
        rows = b ∙ ap (λ (n : Option Fault). laid (row_numbers (called_by n s bytes (length d₀) (length e₀)).rows) d₀) r;
        sends = c ∙ ap (λ (n : Option Fault). laid (send_numbers (called_by n s bytes (length d₀) (length e₀)).sends) e₀) r;
      }

-- what every step keeps a call keeps
module _ (P : Session → Type 0) (keeps : (s : Session) (b : List ℕ) → P s → P (step s b).session) where
  singles-keep : (k at : ℕ) (s : Session) (left : List ℕ) (why : Ended) → P s → P (singles k at s left why).session
  unfolding singles joined
  singles-keep zero at s left why h = h
  singles-keep (suc k) at s left why h =
      singles-keep k (at + front_length left) (step s left).session (drop (front_length left) left) why (keeps s left h)

  course-keeps : (at r q : ℕ) (s : Session) (left : List ℕ) → (s.state ≡ state.Down → ⊥) → P s → P (course at r q s left).session
  course-keeps at r q s left up h =
      let w = single-steps at r q s left up in
      subst (λ (x : Did Ended). P x.session) (sym w.1) (singles-keep w.0 at s left (course at r q s left).after h)

  pub call-keeps : (s : Session) (bytes : List ℕ) (r q : ℕ) → P s → P (called s bytes r q).session
  unfolding called called_by refusal_in
  call-keeps s bytes r q h = go s.state refl
    where
      by : (s.state ≡ state.Down → ⊥) → (k : Option Fault) → P (called_by k s bytes r q).session
      by up None = course-keeps 0 r q s bytes up h
      by up (Some (fault.Refused x)) = h
      by up (Some (fault.Halted x)) = h

      go : (p : State) → s.state ≡ p → P (called s bytes r q).session
      go state.Down e = subst (λ (p : State). P (called_by (refusal_in p r q) s bytes r q).session) (sym e) h
      go state.Waiting e = by (waiting-up e) (refusal_in s.state r q)
      go state.Live e = by (live-up e) (refusal_in s.state r q)
