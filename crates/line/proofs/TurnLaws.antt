-- Business in its turn: a Live line takes it, whatever else it might have answered.
use mathlib.Core.Path.{◌≡◌, refl, sym, ap, ◌∙◌}
use mathlib.Core.Bool.{true, false}
use mathlib.Core.List.{List}
use Prim.Native.Nat.{ℕ, ◌+◌}
use borrow.Author.Tests.{ne_eqb}
use Rattle.std.specs.Prelude.{Result}
use Rattle.message.specs.declared.refusal.Refusal.{Refusal}
use Rattle.message.specs.declared.read.Reading.{Reading}
use Rattle.message.specs.Frame.{front_length}
use Rattle.message.specs.Read.{read_of}
use Rattle.session.specs.declared.arrival.Due.{Due}
use Rattle.session.specs.declared.state.Row.TheVariants.{Business}
use Rattle.session.specs.declared.state.Send.TheVariants.{Nothing}
use Rattle.session.specs.State.{code_number, told, take}
use Rattle.session.specs.Turn.{due_taken, take_due}
use Rattle.session.proofs.TurnLaws.{due-step}
use Rattle.calls.specs.Steps.{is_heard}
use Rattle.line.specs.declared.line.Line.{Line}
use Rattle.line.specs.declared.line.LineDue.{LineDue}
use Rattle.line.specs.Line.{moved_line, is_any, stepped_line, step_line}
use Rattle.line.specs.Turn.{take_due_line, due_stepped}

-- what is taken so, d: the message at the front of `left`
pub record TookLine (l : Line) (t : ℕ) (left : List ℕ) (d : LineDue) : Type 0 where
  pub step : step_line l t left ≡ due_stepped d.line l.session.expected
  pub size : d.length ≡ front_length left

-- a row taken is heard, and sends nothing
taken-line : (l : Line) (t : ℕ)
    → stepped_line l t (take l.session (l.session.expected + 1) l.session.own Nothing (Business l.session.expected))
    ≡ due_stepped (moved_line l t (due_taken l.session) true false) l.session.expected
unfolding take is_heard is_any code_number told
taken-line l t = refl

pub due-line : (l : Line) (t : ℕ) (left : List ℕ) (read : Result Reading Refusal) (d : LineDue) → read ≡ read_of left → d ≡ take_due_line l t left read
    → (d.length ≡ 0 → ⊥) → TookLine l t left d
unfolding take_due_line step_line
due-line l t left read d r e some =
    let s = l.session in
    let x : Due = take_due s left read in
    let n : d.length ≡ x.length = ap (λ (y : LineDue). y.length) e in
    let k = due-step s left read (take_due s left read) r refl (λ z. some (n ∙ z)) in
    let m : d.line ≡ moved_line l t (due_taken s) true false =
    ap (λ (y : LineDue). y.line) e ∙ rw (ne_eqb x.length 0 (λ z. some (n ∙ z)), k.session) in
    record {
      step = ap (stepped_line l t) k.step ∙ taken-line l t ∙ ap (λ (y : Line). due_stepped y s.expected) (sym m);
      size = n ∙ k.size;
    }

-- so a step takes it, and does nothing else
pub due-line-is-step : (l : Line) (t : ℕ) (left : List ℕ) → ((take_due_line l t left (read_of left)).length ≡ 0 → ⊥)
    → (step_line l t left ≡ due_stepped (take_due_line l t left (read_of left)).line l.session.expected)
    × ((take_due_line l t left (read_of left)).length ≡ front_length left)
due-line-is-step l t left some =
    let k = due-line l t left (read_of left) (take_due_line l t left (read_of left)) refl refl some in
    (k.step, k.size)
