-- `capi::write::decimal_text_c` meets its contract: the answer of the text that is laid, shown.
use mathlib.Core.Path.{ap, ◌∙◌}
use Prim.Native.Nat.{ℕ}
use mathlib.Core.List.{List}
use mir.Facts.{to_z-of_z}
use Rattle.spelt.specs.Spelt.{amount_text}
use Rattle.wire.specs.Laying.{laid, laid_answer}
use Rattle.capi.specs.Writing.{shown_laid}
use Rattle.capi.proofs.write.decimal_text_c.Goals as goal

pub returns : goal.returns
returns c =
    let p = c.put_amount in
    let e = ap amount_text (to_z-of_z c.ranges.decimal) in
    (c.from.ensures ∙ ap shown_laid (p.ensures.0 ∙ ap (λ (x : List ℕ). laid_answer x c.args.d.now) e), p.ensures.1 ∙ ap (λ (x : List ℕ). laid x c.args.d.now) e)
