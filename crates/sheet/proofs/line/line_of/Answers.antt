-- `sheet::line::line_of` meets its contract: one law for each way.
use mathlib.Core.Bool.{true≢false}
use mathlib.Core.Path.{◌≡◌, sym, ◌∙◌}
use Prim.Native.Nat.{◌≤◌, ◌<◌}
use native.Mathlib.Omega.{arith}
use lib.ListN.{length}
use borrow.Author.Tests.{eq-eqb}
use Rattle.std.proofs.lemmas.Grind.{common_steps}
use Rattle.sheet.specs.Line.{most_new}
use Rattle.sheet.proofs.LineLaws.{line-longer, n-zero, n-past, dup-past, new-past, line-good, most-new-most}
use Rattle.sheet.proofs.line.line_of.Goals as goal
use Rattle.sheet.proofs.line.line_of.Goals.{else-is_empty-via-then-is_empty+then-n-ge1+then-n-le-MOST+then-dup-le1+else-new-most, else-is_empty-via-then-is_empty+then-n-ge1+then-n-le-MOST+else-dup-le1, else-is_empty-via-then-is_empty+then-n-ge1+else-n-le-MOST, else-is_empty-via-then-is_empty+else-n-ge1, else-is_empty-via-else-is_empty}

pub overflow_cast-result-then-new-most-2 : goal.overflow_cast-result-then-new-most-2
overflow_cast-result-then-new-most-2 c = omega (arith, c.most_new-most.ensures, most-new-most c.args.kind)

pub returns-then-new-most : goal.returns-then-new-most
returns-then-new-most c =
    let a = c.args in
    let empty : length a.s.now ≡ 0 = grind (arith, common_steps) in
    let h : a.new ≤ most_new a.kind = omega (arith, c.most_new-most.ensures) in
    sym (line-good a.kind a.n a.dup a.new a.s.now empty (omega arith) (omega arith) (omega arith) h)

pub returns-else-is_empty : goal.returns-else-is_empty
returns-else-is_empty c =
    let a = c.args in
    elim c.else-is_empty.branch [
      | else-is_empty-via-then-is_empty+then-n-ge1+then-n-le-MOST+then-dup-le1+else-new-most w ↦
          let h : most_new a.kind < a.new = omega (arith, c.most_new-most.ensures) in
          sym (new-past a.kind a.n a.dup a.new a.s.now h)
      | else-is_empty-via-then-is_empty+then-n-ge1+then-n-le-MOST+else-dup-le1 w ↦ sym (dup-past a.kind a.n a.dup a.new a.s.now w.if-dup-le1.false)
      | else-is_empty-via-then-is_empty+then-n-ge1+else-n-le-MOST w ↦ sym (n-past a.kind a.n a.dup a.new a.s.now w.if-n-le-MOST.false)
      | else-is_empty-via-then-is_empty+else-n-ge1 w ↦ sym (n-zero a.kind a.n a.dup a.new a.s.now w.if-n-ge1.false)
      | else-is_empty-via-else-is_empty w ↦
          sym (line-longer a.kind a.n a.dup a.new a.s.now (λ z. true≢false (sym (eq-eqb _ _ z) ∙ sym c.is_empty.ensures ∙ w.if-is_empty.false)))
    ]
