-- `line::line::Line::silence_due` meets its contract, by whether this silence has had its Test Request.
use mathlib.Core.Path.{◌≡◌, ap, ◌∙◌}
use Prim.Native.Nat.{ℕ, ◌+◌, ◌*◌}
use mathlib.Core.Bool.{cond}
use Rattle.line.specs.Tick.{to_down, to_test_request, at_time, silence_due}
use Rattle.line.proofs.SumLaws.{time-at}
use Rattle.line.proofs.line.Line.silence_due.Goals as goal
use Rattle.line.proofs.line.Line.silence_due.Goals.{then-self, else-self}

pub returns : goal.returns
unfolding silence_due
returns c =
    let l = c.args.self in
    let n : c.if-self.intervals ≡ cond l.tested to_down to_test_request = elim c.if-self.branch [
      | then-self w ↦ simp (w.intervals-is, w.if-self.true)
      | else-self w ↦ simp (w.intervals-is, w.if-self.false)
    ] in
    time-at _ c.checked_add.result c.checked_add.ensures ∙ ap (λ (x : ℕ). at_time (l.heard + x * c.wait.result)) n
    ∙ ap (λ (x : ℕ). at_time (l.heard + cond l.tested to_down to_test_request * x)) c.wait.ensures.value
