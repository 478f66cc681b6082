-- `capi::read::CValueFromResultValueRefusal::from` meets its contract: each answer's sort.
use mathlib.Core.Path.{◌≡◌, sym, ap, ◌∙◌}
use Rattle.std.proofs.Common.{w64}
use Rattle.std.specs.Prelude.{Ok}
use lib.IntN.{ℤ}
use mir.Facts.{to_z-of_z}
use Rattle.fields.specs.declared.value.Value.TheVariants.{Decimal}
use Rattle.capi.specs.Reading.{shown_value}
use borrow.Author.Rules.{rules}
use Rattle.capi.proofs.read.CValueFromResultValueRefusal.from.Goals as goal

pub returns-in-Ok-Decimal : goal.returns-in-Ok-Decimal
unfolding shown_value
returns-in-Ok-Decimal c =
    let e : c.args.asked ≡ Ok (Decimal c.in-Ok-Decimal.z) = search rules in
    ap (λ (z : ℤ). shown_value (Ok (Decimal z))) (to_z-of_z {w = w64} (record { sfits = search rules })) ∙ sym (ap shown_value e)
