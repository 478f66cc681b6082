-- The line as C hands it in: it passes the check, and is then the line that its members tell; or it is refused with 90.
use Prim.Native.Nat.{ℕ}
use mathlib.Core.Path.{◌≡◌, refl, ap, ◌∙◌}
use mathlib.Core.Bool.{Bool, true, false, cond, ◌&&◌}
use native.Mathlib.Omega.{arith}
use Rattle.std.specs.Prelude.{Some, None}
use Rattle.session.specs.declared.state.Fault.TheVariants.{Halted}
use Rattle.session.specs.declared.state.Halt.TheVariants.{NotASession}
use Rattle.session.specs.Day.{not_made}
use Rattle.session.specs.Held.{state_at, is_held, held}
use Rattle.session.specs.State.{halt_number, code_number}
use Rattle.line.specs.declared.line.LineCode.TheVariants.{Day}
use Rattle.line.specs.declared.line.LineMade.{LineMade}
use Rattle.line.specs.Line.{line_number, not_a_line, is_live, is_held_line, held_line}
use Rattle.capi.specs.declared.shape.CLine.{CLine}
use Rattle.capi.specs.Sessions.{session_in, is_session, not_a_session}
use Rattle.capi.specs.Lines.{line_in, held_in, is_line}

pub record TakenIn (c : CLine) (m : LineMade) : Type 0 where
  pub passes : is_line c ≡ true
  pub line : m.line ≡ line_in c

pub record NotTakenIn (c : CLine) (k : ℕ) : Type 0 where
  pub fails : is_line c ≡ false
  pub number : k ≡ not_a_session

module _ (c : CLine) where
  abbrev answer : Bool → LineMade
  answer b = cond b (record { code = Day None; line = line_in c }) (not_a_line (Day (Some (Halted NotASession))))

  -- the session decides first, and then the clock and the waits
  held-line : held_in c ≡ answer (is_line c)
  unfolding held_line held is_line is_session code_number halt_number not_made
  held-line = go (is_held c.session.state c.session.ours c.session.expected c.session.own c.session.ahead c.session.repeats)
    where
      go : (b : Bool) → held_line (cond b (record { code = None; session = session_in c.session }) (not_made (Some (Halted NotASession))))
          c.interval c.tested c.now c.sent c.heard
          ≡ answer (b && is_held_line (is_live (state_at c.session.state)) c.interval c.tested c.now c.sent c.heard)
      go true = refl
      go false = refl

module _ (c : CLine) (m : LineMade) (k : ℕ) (e : m ≡ held_in c) (f : k ≡ line_number m.code) where
  by : (b : Bool) → is_line c ≡ b → m ≡ answer c b
  by b p = e ∙ held-line c ∙ ap (answer c) p

  pub taken-line : k ≡ 0 → TakenIn c m
  unfolding line_number code_number halt_number not_a_line
  taken-line z = go (is_line c) refl
    where
      go : (b : Bool) → is_line c ≡ b → TakenIn c m
      go true p = record { passes = p; line = ap (λ (x : LineMade). x.line) (by true p) }
      go false p = absurd (omega (arith, ap (λ (x : LineMade). line_number x.code) (by false p)))

  pub not-taken-line : (k ≡ 0 → ⊥) → NotTakenIn c k
  unfolding line_number code_number halt_number not_a_line
  not-taken-line z = go (is_line c) refl
    where
      go : (b : Bool) → is_line c ≡ b → NotTakenIn c k
      go true p = absurd (z (f ∙ ap (λ (x : LineMade). line_number x.code) (by true p)))
      go false p = record { fails = p; number = f ∙ ap (λ (x : LineMade). line_number x.code) (by false p) }
