-- `sheet::print::counted` meets its contract: the label with its number, then the line end.
use mathlib.Core.Path.{ap, ◌∙◌}
use Prim.Native.Nat.{ℕ}
use native.Mathlib.Omega.{arith}
use mathlib.Core.List.{List, [], ◌∷◌, ◌++◌, append_assoc}
use Rattle.spelt.specs.Spelt.{number_text}
use Rattle.sheet.specs.Print.{counted_text}
use Rattle.sheet.proofs.print.counted.Goals as goal

pub returns : goal.returns
unfolding counted_text
returns c =
    let f = c.put_field-p in
    let p = c.put in
    let a = c.args in (
      omega (arith, f.ensures.upper_bound, p.ensures.0),
      p.ensures.1 ∙ ap (λ (x : List ℕ). x ++ 10 ∷ []) f.ensures.d_after ∙ append_assoc a.label.now (number_text a.k) (10 ∷ []),
    )
