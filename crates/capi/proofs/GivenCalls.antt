-- What a call of many messages gives to send: each message is one that a single step gives. Behind the last one stands Nothing, which is one too.
use Prim.Native.Nat.{ℕ, zero, suc, ◌+◌, ◌≤◌}
use mathlib.Core.Path.{◌≡◌, refl, sym, subst}
use mathlib.Core.List.{List, [], ◌∷◌, ◌++◌}
use lib.Dec.{eqb}
use lib.ListN.{get_or, drop}
use Rattle.std.specs.Prelude.{Option, Some, None}
use Rattle.wire.specs.Number.{Bytes}
use Rattle.wire.proofs.NumberLaws.{bytes_drop}
use Rattle.wire.proofs.TestLaws.{either}
use Rattle.message.specs.Frame.{front_length}
use Rattle.session.specs.declared.state.Fault.{Fault}
use Rattle.session.specs.declared.state.Fault.TheVariants as fault
use Rattle.session.specs.declared.state.Send.{Send}
use Rattle.session.specs.declared.state.Send.TheVariants.{Nothing}
use Rattle.session.specs.declared.state.Session.{Session}
use Rattle.session.specs.declared.state.State.{State}
use Rattle.session.specs.declared.state.State.TheVariants as state
use Rattle.session.specs.declared.state.Stepped.{Stepped}
use Rattle.calls.specs.declared.Ended.{Ended}
use Rattle.session.specs.Day.{step}
use Rattle.session.specs.State.{last, told}
use Rattle.calls.specs.Steps.{send_in, sends_of, Did, joined, step_done, course, refusal_in, called_by, called, singles}
use Rattle.calls.proofs.CallLaws.{waiting-up, live-up}
use Rattle.capi.proofs.GivenLaws.{Given, nothing, Gives, step_gives}
use Rattle.session.specs.Course.{stepped, Standing}
use Rattle.session.proofs.SessionLaws.{own-bounded}
use Rattle.calls.proofs.SingleLaws.{single-steps}
use Rattle.capi.proofs.UpLaws.{standing-kept}

-- each of a list
abbrev Each : List Send → Type 0
Each xs = (k : ℕ) → Given (get_or xs k Nothing)

none : Each []
none k = nothing

both : (xs ys : List Send) → Each xs → Each ys → Each (xs ++ ys)
both [] ys f g k = g k
both (x ∷ xs) ys f g zero = f zero
both (x ∷ xs) ys f g (suc k) = both xs ys (λ j. f (suc j)) g k

single : (x : Send) → Given x → Each (x ∷ [])
single x h zero = h
single x h (suc k) = nothing

send-in : (x : Send) → Given x → Each (send_in x)
unfolding send_in
send-in x h = either (λ (xs : List Send). Each xs) (eqb (told x).kind 0) (λ t. none) (λ t. single x h)

step-each : (x : Stepped) → Gives x → Each (sends_of x.answer)
unfolding sends_of
step-each x g = both (send_in x.answer.first) (send_in x.answer.second) (send-in x.answer.first g.first) (send-in x.answer.second g.second)

-- single steps in turn
singles-each : (n at : ℕ) (s : Session) (left : List ℕ) (why : Ended) → Standing s → s.own ≤ last → Bytes left → Each (singles n at s left why).sends
unfolding singles joined step_done
singles-each zero at s left why h l b = none
singles-each (suc n) at s left why h l b =
    let t : Session = (step s left).session in
    let rest : List ℕ = drop (front_length left) left in
    both (sends_of (step s left).answer) (singles n (at + front_length left) t rest why).sends
    (step-each (step s left) (step_gives s h l left b))
    (singles-each n (at + front_length left) t rest why (standing-kept (stepped left) h) (own-bounded (stepped left) l) (bytes_drop (front_length left) left b))

-- and so a call
module _ (s : Session) (h : Standing s) (l : s.own ≤ last) (bytes : List ℕ) (b : Bytes bytes) (r q : ℕ) where
  course-each : (s.state ≡ state.Down → ⊥) → Each (course 0 r q s bytes).sends
  course-each up =
      let w = single-steps 0 r q s bytes up in
      subst (λ (x : Did Ended). Each x.sends) (sym w.1) (singles-each w.0 0 s bytes (course 0 r q s bytes).after h l b)

  by_code : (s.state ≡ state.Down → ⊥) → (k : Option Fault) → Each (called_by k s bytes r q).sends
  unfolding called_by
  by_code up None = course-each up
  by_code up (Some (fault.Refused x)) = none
  by_code up (Some (fault.Halted x)) = none

  by_state : (p : State) → s.state ≡ p → Each (called_by (refusal_in p r q) s bytes r q).sends
  unfolding called_by refusal_in
  by_state state.Down e = none
  by_state state.Waiting e = by_code (waiting-up e) (refusal_in state.Waiting r q)
  by_state state.Live e = by_code (live-up e) (refusal_in state.Live r q)

  pub call-gives : (k : ℕ) → Given (get_or (called s bytes r q).sends k Nothing)
  unfolding called
  call-gives = by_state s.state refl
