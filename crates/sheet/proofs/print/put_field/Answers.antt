-- `sheet::print::put_field` meets its contract: the label, then the number.
use mathlib.Core.Path.{ap, ◌∙◌}
use Prim.Native.Nat.{ℕ, ◌+◌, ◌≤◌}
use native.Mathlib.Omega.{arith}
use mathlib.Core.List.{List, ◌++◌}
use lib.ListN.{length}
use Rattle.spelt.specs.Spelt.{number_text}
use Rattle.spelt.proofs.BehindLaws.{number_behind}
use Rattle.sheet.proofs.print.put_field.Goals as goal

pub returns : goal.returns
returns c =
    let l = c.put-p in
    let p = c.put_number-laid in
    let h : l.result + 20 ≤ length l.new.d = omega (arith, l.ensures.0, l.auto.d, c.requires) in
    let b = number_behind l.new.d l.result c.args.n h p.result c.unwrap_or.result p.new.d p.ensures.0 c.unwrap_or.ensures p.ensures.1 in
    record { upper_bound = omega (arith, b.0, l.ensures.0); d_after = b.1 ∙ ap (λ (x : List ℕ). x ++ number_text c.args.n) l.ensures.1 }

pub overflow_add-result : goal.overflow_add-result
overflow_add-result c = omega (arith, (returns c).upper_bound)
