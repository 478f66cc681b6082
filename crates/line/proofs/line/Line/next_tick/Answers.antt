-- `line::line::Line::next_tick` meets its contract.
use Prim.Native.Nat.{ℕ, ◌+◌, ◌<◌, ◌^◌}
use mathlib.Core.Path.{◌≡◌, sym, ap, ◌∙◌}
use mathlib.Core.Bool.{Bool, true}
use Rattle.std.specs.Prelude.{Option, Some, SomeIff}
use Rattle.session.specs.declared.state.State.{State}
use Rattle.line.specs.declared.line.Line.{Line}
use Rattle.line.specs.Line.{is_live}
use Rattle.line.specs.Tick.{wait, at_time, earlier, not_before, silence_due, next_tick}
use Rattle.line.proofs.SumLaws.{time-at}
use Rattle.line.proofs.line.Line.next_tick.Goals as goal

-- of a Live line
live-next : (l : Line) (p : State) (live : Bool) (w : ℕ) (s b e : Option ℕ) → p ≡ l.session.state → live ≡ is_live p → live ≡ true → w ≡ wait l
    → SomeIff b (l.sent + w < 2 ^ 64) (l.sent + w) → s ≡ at_time (silence_due l) → e ≡ earlier s b → not_before l.now e ≡ next_tick l
unfolding next_tick
live-next l p live w s b e h i j k m n o =
    let q : is_live l.session.state ≡ true = ap is_live (sym h) ∙ sym i ∙ j in
    let r : b ≡ at_time (l.sent + wait l) = time-at _ b m ∙ ap (λ (x : ℕ). at_time (l.sent + x)) k in
    rw (o, n, r, q)

pub returns-then-not-is_live : goal.returns-then-not-is_live
unfolding next_tick
returns-then-not-is_live c = simp (← c.state.ensures, ← c.is_live.ensures, c.if-not-is_live.true)

pub returns-in_err-next : goal.returns-in_err-next
unfolding not_before
returns-in_err-next c =
    let l = c.args.self in
    c.from_residual.ensures ∙ ap (not_before l.now) (sym c.in_err-next.was)
    ∙ live-next l _ _ _ _ _ _ c.state.ensures c.is_live.ensures c.if-not-is_live.false c.wait.ensures.value c.checked_add-beat.ensures c.silence_due.ensures c.earlier.ensures

pub returns : goal.returns
unfolding not_before
returns c =
    let l = c.args.self in
    ap Some c.later.ensures ∙ ap (not_before l.now) (sym c.in_ok-next.was)
    ∙ live-next l _ _ _ _ _ _ c.state.ensures c.is_live.ensures c.if-not-is_live.false c.wait.ensures.value c.checked_add-beat.ensures c.silence_due.ensures c.earlier.ensures
