-- A turn as the code does it: what it gives back and what the lists hold then is what the turn says.
use Rattle.std.specs.Prelude.{Option, Some}
use Prim.Native.Nat.{ℕ, ◌+◌}
use mathlib.Core.Path.{◌≡◌, refl, sym, ap, subst, ◌∙◌}
use mathlib.Core.Bool.{Bool}
use mathlib.Core.List.{List, []}
use lib.ListN.{length}
use Rattle.std.specs.Prelude.{Result}
use Rattle.message.specs.declared.refusal.Refusal.{Refusal}
use Rattle.message.specs.declared.read.Reading.{Reading}
use Rattle.message.specs.Frame.{front_length}
use Rattle.message.specs.Read.{read_of}
use Rattle.wire.specs.Laying.{laid}
use Rattle.session.specs.declared.state.Row.TheVariants.{Business}
use Rattle.session.specs.declared.state.Send.TheVariants.{Nothing}
use Rattle.session.specs.declared.state.Session.{Session}
use Rattle.session.specs.declared.state.Stepped.{Stepped}
use Rattle.calls.specs.declared.Ended.{Ended}
use Rattle.calls.specs.declared.SoFar.{SoFar}
use Rattle.calls.specs.declared.Turned.{Turned}
use Rattle.session.specs.Day.{step_by, step}
use Rattle.session.specs.State.{take}
use Rattle.session.specs.Turn.{take_due}
use Rattle.session.proofs.TurnLaws.{due-step}
use Rattle.calls.specs.Steps.{row_at, sends_of, row_numbers, send_numbers, is_heard, Did, did, next_of, step_done, nothing, turned_by}
use Rattle.calls.proofs.SlotLaws.{laid_none}

-- what was read decides the step
pub read_step : (s : Session) (left : List ℕ) (read : Result Reading Refusal) (x : Stepped) → read ≡ read_of left → x ≡ step_by s left read → x ≡ step s left
unfolding step
read_step s left read x r e = e ∙ ap (step_by s left) r

-- business in its turn: the step takes it and does nothing else, and gives the session and the length that `take_due` says
pub due-is-step : (s : Session) (left : List ℕ) → ((take_due s left (read_of left)).length ≡ 0 → ⊥)
    → (step s left ≡ take s (s.expected + 1) s.own Nothing (Business s.expected))
    × ((take_due s left (read_of left)).session ≡ (step s left).session) × ((take_due s left (read_of left)).length ≡ front_length left)
due-is-step s left some =
    let t = due-step s left (read_of left) (take_due s left (read_of left)) refl refl some in
    (t.step, t.session ∙ sym (ap (λ (x : Stepped). x.session) t.step), t.size)

-- what a turn is to give back, t, with its lists d and e, which were d₀ and e₀
pub record Turns (t : Did (Option Ended)) (x : Turned) (d₀ d e₀ e : List ℕ) : Type 0 where
  pub answer : x ≡ turned_by t
  pub rows : d ≡ laid (row_numbers t.rows) d₀
  pub sends : e ≡ laid (send_numbers t.sends) e₀

-- the call ends before the step
pub turns-nothing : (t : Did (Option Ended)) (s : Session) (why : Ended) (x : SoFar) (d e : List ℕ) → t ≡ did s (Some why) → x ≡ nothing s
    → Turns t (record { did = x; next = Some why }) d d e e
unfolding row_numbers send_numbers
turns-nothing t s why x d e p q =
    subst (λ (y : Did (Option Ended)). Turns y (record { did = x; next = Some why }) d d e e) (sym p)
    (record { answer = ap (λ (z : SoFar). record { did = z; next = Some why }) q; rows = (laid_none [] d refl).1; sends = (laid_none [] e refl).1 })

-- the step is done
pub turns-done : (t : Did (Option Ended)) (at n r q : ℕ) (left : List ℕ) (x : Stepped) (heard : Bool) (next : Option Ended) (d₀ d e₀ e : List ℕ) → t ≡ step_done at left x
    → n ≡ front_length left → r ≡ length (row_numbers (row_at at n x.answer.row)) → d ≡ laid (row_numbers (row_at at n x.answer.row)) d₀
    → q ≡ length (send_numbers (sends_of x.answer)) → e ≡ laid (send_numbers (sends_of x.answer)) e₀
    → heard ≡ is_heard x.answer.code → next ≡ next_of x.session.state x.answer.code
    → Turns t (record { did = record { session = x.session; used = n; rows = r; sends = q; heard = heard }; next = next }) d₀ d e₀ e
unfolding step_done
turns-done t at n r q left x heard next d₀ d e₀ e p u f g h i o j =
    let y : Turned = record { did = record { session = x.session; used = n; rows = r; sends = q; heard = heard }; next = next } in
    subst (λ (z : Did (Option Ended)). Turns z y d₀ d e₀ e) (sym p)
    (subst (λ (k : ℕ). Turns (step_done at left x) (record { did = record { session = x.session; used = k; rows = r; sends = q; heard = heard }; next = next }) d₀ d e₀ e) (sym u)
    (record { answer = simp (f, h, o, j, u); rows = g ∙ ap (λ (k : ℕ). laid (row_numbers (row_at at k x.answer.row)) d₀) u; sends = i }))
