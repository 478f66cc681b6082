-- `sheet::print::line` meets its contract: part by part.
use mathlib.Core.Path.{ap, ap₂, ◌∙◌}
use Prim.Native.Nat.{ℕ}
use native.Mathlib.Omega.{arith}
use mathlib.Core.List.{List, [], ◌∷◌, ◌++◌}
use Rattle.wire.specs.Spelled.{spelled}
use Rattle.session.specs.State.{first_of, last_of}
use Rattle.spelt.specs.Spelt.{number_text}
use Rattle.sheet.specs.Print.{row_name, send_name, line_text}
use Rattle.sheet.proofs.PrintLaws.{in_order}
use Rattle.sheet.proofs.print.line.Goals as goal

pub returns : goal.returns
unfolding spelled line_text
returns c =
    let a = c.args in
    let n = c.put_row-p in
    let f = c.put_field-p in
    let g = c.put_field-p-2 in
    let h = c.put_field-p-3 in
    let o = c.put_out in
    let out : List ℕ = spelled " out=" ++ (send_name a.send ++ 10 ∷ []) in (
      omega (arith, n.ensures.0, f.ensures.upper_bound, g.ensures.upper_bound, h.ensures.upper_bound, o.ensures.0),
      o.ensures.1
          ∙ ap (λ (x : List ℕ). x ++ out) h.ensures.d_after
          ∙ ap (λ (x : List ℕ). ((x ++ spelled " next=") ++ number_text a.next) ++ out) g.ensures.d_after
          ∙ ap₂ (λ (x : List ℕ) (k : ℕ). ((((x ++ spelled " last=") ++ number_text k) ++ spelled " next=") ++ number_text a.next) ++ out) f.ensures.d_after c.last_of-last.ensures
          ∙ ap₂ (λ (x : List ℕ) (k : ℕ). ((((((x ++ spelled " first=") ++ number_text k) ++ spelled " last=") ++ number_text (last_of a.row)) ++ spelled " next=") ++ number_text a.next) ++ out) n.ensures.1 c.first_of-first.ensures
          ∙ in_order (spelled "row=") (row_name a.row) (spelled " first=") (number_text (first_of a.row)) (spelled " last=") (number_text (last_of a.row)) (spelled " next=") (number_text a.next) out,
    )
