-- A Live session's step and a Live line's, as C sees them: what was read decides, and business in its turn is taken.
use mathlib.Core.Path.{◌≡◌, ap, ap₂, ◌∙◌}
use mathlib.Core.List.{List}
use Prim.Native.Nat.{ℕ, ◌<◌}
use Rattle.std.specs.Prelude.{Result}
use Rattle.message.specs.declared.refusal.Refusal.{Refusal}
use Rattle.message.specs.declared.read.Reading.{Reading}
use Rattle.message.specs.Frame.{front_length}
use Rattle.message.specs.Read.{read_of}
use Rattle.session.specs.declared.arrival.Due.{Due}
use Rattle.session.specs.declared.state.Session.{Session}
use Rattle.session.specs.declared.state.Stepped.{Stepped}
use Rattle.session.specs.Day.{step_by, step}
use Rattle.session.specs.State.{last}
use Rattle.session.specs.Turn.{take_due}
use Rattle.session.proofs.TurnLaws.{Took, is-due, due-step}
use Rattle.line.specs.declared.line.Line.{Line}
use Rattle.line.specs.declared.line.LineStepped.{LineStepped}
use Rattle.line.specs.Line.{stepped_line, step_line}
use Rattle.capi.specs.declared.shape.CSession.{CSession}
use Rattle.capi.specs.Sessions.{session_in, used_by}

pub live-used : (c : CSession) → c.state ≡ 2 → (s : List ℕ) → front_length s ≡ used_by c.state s
unfolding used_by
live-used c e s = simp e

module _ (c : CSession) (s : List ℕ) (read : Result Reading Refusal) (r : read ≡ read_of s) where
  pub live-took : (t : Session) (d : Due) → t ≡ session_in c → d ≡ take_due t s read → (d.length ≡ 0 → ⊥) → Took (session_in c) s d
  live-took t d p q some = due-step (session_in c) s read d r (q ∙ ap (λ (x : Session). take_due x s read) p) some

  pub live_more : (t : Session) (d : Due) → t ≡ session_in c → d ≡ take_due t s read → (d.length ≡ 0 → ⊥) → c.expected < last
  unfolding take_due
  live_more t d p q some =
      (is-due (session_in c) s read d.length (ap (λ (x : Due). x.length) (q ∙ ap (λ (x : Session). take_due x s read) p)) some).more

  pub live-ruled : (t : Session) (x : Stepped) → t ≡ session_in c → x ≡ step_by t s read → x ≡ step (session_in c) s
  unfolding step
  live-ruled t x p u = u ∙ ap₂ (λ (y : Session) (z : Result Reading Refusal). step_by y s z) p r

pub line-ruled : (l : Line) (t : ℕ) (s : List ℕ) (read : Result Reading Refusal) (x : LineStepped) → read ≡ read_of s
    → x ≡ stepped_line l t (step_by l.session s read) → x ≡ step_line l t s
unfolding step_line step
line-ruled l t s read x r u = u ∙ ap (λ (z : Result Reading Refusal). stepped_line l t (step_by l.session s z)) r
