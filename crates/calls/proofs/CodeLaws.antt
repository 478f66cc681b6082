-- What a step answered, by its variants: whether the message counts as heard, and which bytes are needed.
use Prim.Native.Nat.{ℕ, ◌≤◌}
use mathlib.Core.Path.{◌≡◌, refl, sym, ap, ◌∙◌}
use mathlib.Core.Bool.{Bool, true, false, cond}
use mathlib.Core.Logic.{◌⊎◌, inl, inr}
use native.Mathlib.Omega.{arith}
use lib.Dec.{eqb}
use borrow.Author.Tests.{eq-eqb, eqb-true}
use Rattle.std.specs.Prelude.{Option, Some, None}
use Rattle.message.specs.declared.refusal.Refusal.{Refusal}
use Rattle.message.specs.declared.refusal.Refusal.TheVariants as refusal
use Rattle.message.specs.Refusal.{number_of}
use Rattle.session.specs.declared.state.Fault.{Fault}
use Rattle.session.specs.declared.state.Fault.TheVariants.{Refused, Halted}
use Rattle.session.specs.declared.state.Halt.{Halt}
use Rattle.session.specs.declared.state.Halt.TheVariants as halt
use Rattle.session.specs.State.{code_number, code_besides, halt_number}
use Rattle.calls.specs.Steps.{is_heard, short_of}

-- after these three a session is as it was
pub low_refusal : (r : Refusal) → ((n : ℕ) × (r ≡ refusal.Short n)) ⊎ (r ≡ refusal.BadStart) ⊎ (r ≡ refusal.BadLength) → number_of r ≤ 3
unfolding number_of
low_refusal r (inl (n, e)) = rw e (omega arith)
low_refusal r (inr (inl e)) = rw e (omega arith)
low_refusal r (inr (inr e)) = rw e (omega arith)

-- a message of no good checksum is not heard
pub not-heard : (r : Refusal) → ((n : ℕ) × (r ≡ refusal.Short n)) ⊎ (r ≡ refusal.BadStart) ⊎ (r ≡ refusal.BadLength) ⊎ ((n : ℕ) × (r ≡ refusal.BadSum n))
    → is_heard (Some (Refused r)) ≡ false
unfolding is_heard code_number number_of
not-heard r (inl (n, e)) = rw e
not-heard r (inr (inl e)) = rw e
not-heard r (inr (inr (inl e))) = rw e
not-heard r (inr (inr (inr (n, e)))) = rw e

-- every other is
pub heard-refused : (r : Refusal) → ((n : ℕ) → r ≡ refusal.Short n → ⊥) → (r ≡ refusal.BadStart → ⊥) → (r ≡ refusal.BadLength → ⊥)
    → ((n : ℕ) → r ≡ refusal.BadSum n → ⊥) → is_heard (Some (Refused r)) ≡ true
unfolding is_heard code_number number_of
heard-refused (refusal.Short n) p q s t = absurd (p n refl)
heard-refused refusal.BadStart p q s t = absurd (q refl)
heard-refused refusal.BadLength p q s t = absurd (s refl)
heard-refused (refusal.BadSum n) p q s t = absurd (t n refl)
heard-refused refusal.UnknownType p q s t = refl
heard-refused refusal.BadHeader p q s t = refl
heard-refused (refusal.UnknownPosition n) p q s t = refl
heard-refused (refusal.MissingField n) p q s t = refl
heard-refused (refusal.BadField n) p q s t = refl
heard-refused (refusal.LeftOver n) p q s t = refl
heard-refused (refusal.NoRoom n) p q s t = refl
heard-refused refusal.Absent p q s t = refl
heard-refused refusal.OtherSort p q s t = refl

pub heard-halted : (h : Halt) → is_heard (Some (Halted h)) ≡ true
unfolding is_heard code_number halt_number
heard-halted halt.Down = refl
heard-halted halt.NotDown = refl
heard-halted halt.NoNumber = refl
heard-halted halt.BadSaved = refl
heard-halted halt.StopNumber = refl
heard-halted halt.StopCompId = refl
heard-halted halt.StopType = refl
heard-halted halt.StopNew = refl
heard-halted halt.StopResend = refl
heard-halted halt.StopNext = refl
heard-halted halt.StopLast = refl
heard-halted halt.StopRepeats = refl
heard-halted halt.NotASession = refl

-- no other refusal has the number 1
pub not-short : (r : Refusal) → ((n : ℕ) → r ≡ refusal.Short n → ⊥) → short_of (Some (Refused r)) ≡ None
unfolding short_of code_number number_of
not-short (refusal.Short n) p = absurd (p n refl)
not-short refusal.BadStart p = refl
not-short refusal.BadLength p = refl
not-short (refusal.BadSum n) p = refl
not-short refusal.UnknownType p = refl
not-short refusal.BadHeader p = refl
not-short (refusal.UnknownPosition n) p = refl
not-short (refusal.MissingField n) p = refl
not-short (refusal.BadField n) p = refl
not-short (refusal.LeftOver n) p = refl
not-short (refusal.NoRoom n) p = refl
not-short refusal.Absent p = refl
not-short refusal.OtherSort p = refl

pub halted-short : (h : Halt) → short_of (Some (Halted h)) ≡ None
unfolding short_of code_number halt_number
halted-short halt.Down = refl
halted-short halt.NotDown = refl
halted-short halt.NoNumber = refl
halted-short halt.BadSaved = refl
halted-short halt.StopNumber = refl
halted-short halt.StopCompId = refl
halted-short halt.StopType = refl
halted-short halt.StopNew = refl
halted-short halt.StopResend = refl
halted-short halt.StopNext = refl
halted-short halt.StopLast = refl
halted-short halt.StopRepeats = refl
halted-short halt.NotASession = refl

-- the bytes that are needed come with the number 1, and where there are none it is another
module _ (k : Option Fault) where
  pub some_short : (n : ℕ) → short_of k ≡ Some n → (code_number k ≡ 1) × (n ≡ code_besides k)
  unfolding short_of
  some_short n = go (eqb (code_number k) 1) refl
    where
      go : (b : Bool) → eqb (code_number k) 1 ≡ b → ◌≡◌ {A = Option ℕ} (cond b (Some (code_besides k)) None) (Some n) → (code_number k ≡ 1) × (n ≡ code_besides k)
      go true e h = (eqb-true (code_number k) 1 e, cc)
      go false e h = let z : ◌≡◌ {A = ℕ} 0 1 = cc in absurd (omega arith)

  pub none_short : short_of k ≡ None → code_number k ≡ 1 → ⊥
  unfolding short_of
  none_short h e =
      let p = ap (λ (b : Bool). cond b (Some (code_besides k)) None) (sym (eq-eqb (code_number k) 1 e)) ∙ h in
      let z : ◌≡◌ {A = ℕ} 0 1 = cc in absurd (omega arith)
