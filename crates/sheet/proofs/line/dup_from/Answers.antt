-- `sheet::line::dup_from` meets its contract: a number, the text behind it, and what follows.
use mathlib.Core.Path.{sym, ◌∙◌}
use Prim.Native.Nat.{ℕ}
use mathlib.Core.List.{List}
use Rattle.std.specs.Prelude.{Option}
use Rattle.wire.specs.Spelled.{spelled}
use Rattle.sheet.specs.declared.line.Line.{Line}
use Rattle.sheet.specs.Line.{number, line_of}
use Rattle.sheet.proofs.LineLaws.{follows-none, follows-bad, follows-good, dup-blind}
use Rattle.sheet.proofs.line.dup_from.Goals as goal

pub returns-in_err-dup : goal.returns-in_err-dup
unfolding spelled
returns-in_err-dup c =
    let a = c.args in
    let f : ℕ → List ℕ → Option Line = λ dup. number (line_of a.kind a.n dup) in
    c.from_residual.ensures ∙ sym (follows-none (spelled " new=") f (dup-blind (spelled " new=") a.kind a.n) a.s.now c.in_err-dup.ensures)

pub returns-in_err-strip_prefix : goal.returns-in_err-strip_prefix
unfolding spelled
returns-in_err-strip_prefix c =
    let a = c.args in
    let f : ℕ → List ℕ → Option Line = λ dup. number (line_of a.kind a.n dup) in
    c.from_residual-in_err-strip_prefix.ensures ∙ sym (follows-bad (spelled " new=") f (dup-blind (spelled " new=") a.kind a.n) a.s.now c.in_ok-dup.dup c.in_ok-dup.rest.now c.in_ok-dup.ensures c.in_err-strip_prefix.ensures.cases)

pub returns : goal.returns
unfolding spelled
returns c =
    let a = c.args in
    let f : ℕ → List ℕ → Option Line = λ dup. number (line_of a.kind a.n dup) in
    let e = c.in_ok-strip_prefix.ensures.cases in
    c.new_from.ensures ∙ sym (follows-good (spelled " new=") f (dup-blind (spelled " new=") a.kind a.n) a.s.now c.in_ok-dup.dup c.in_ok-dup.rest.now c.in_ok-dup.ensures e.0 c.in_ok-strip_prefix.field-0.now e.1)
