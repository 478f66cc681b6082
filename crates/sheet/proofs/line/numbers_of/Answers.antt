-- `sheet::line::numbers_of` meets its contract: a number, the text behind it, and what follows.
use mathlib.Core.Path.{sym, ◌∙◌}
use Prim.Native.Nat.{ℕ}
use mathlib.Core.List.{List}
use Rattle.std.specs.Prelude.{Option}
use Rattle.wire.specs.Spelled.{spelled}
use Rattle.sheet.specs.declared.line.Line.{Line}
use Rattle.sheet.specs.Line.{after, number, line_of, numbers_of}
use Rattle.sheet.proofs.LineLaws.{follows-none, follows-bad, follows-good, n-blind}
use Rattle.sheet.proofs.line.numbers_of.Goals as goal

pub returns-in_err-n : goal.returns-in_err-n
unfolding spelled numbers_of
returns-in_err-n c =
    let a = c.args in
    let f : ℕ → List ℕ → Option Line = λ n. number (λ dup. after (spelled " new=") (number (line_of a.kind n dup))) in
    c.from_residual.ensures ∙ sym (follows-none (spelled " dup=") f (n-blind (spelled " dup=") (spelled " new=") a.kind) a.s.now c.in_err-n.ensures)

pub returns-in_err-strip_prefix : goal.returns-in_err-strip_prefix
unfolding spelled numbers_of
returns-in_err-strip_prefix c =
    let a = c.args in
    let f : ℕ → List ℕ → Option Line = λ n. number (λ dup. after (spelled " new=") (number (line_of a.kind n dup))) in
    c.from_residual-in_err-strip_prefix.ensures ∙ sym (follows-bad (spelled " dup=") f (n-blind (spelled " dup=") (spelled " new=") a.kind) a.s.now c.in_ok-n.n c.in_ok-n.rest.now c.in_ok-n.ensures c.in_err-strip_prefix.ensures.cases)

pub returns : goal.returns
unfolding spelled numbers_of
returns c =
    let a = c.args in
    let f : ℕ → List ℕ → Option Line = λ n. number (λ dup. after (spelled " new=") (number (line_of a.kind n dup))) in
    let e = c.in_ok-strip_prefix.ensures.cases in
    c.dup_from.ensures ∙ sym (follows-good (spelled " dup=") f (n-blind (spelled " dup=") (spelled " new=") a.kind) a.s.now c.in_ok-n.n c.in_ok-n.rest.now c.in_ok-n.ensures e.0 c.in_ok-strip_prefix.field-0.now e.1)
