-- `fields::sets::lowest_missing` meets its contract: the quick test leaves no missing position.
use mathlib.Core.Path.{◌≡◌, sym, ap, ◌∙◌}
use Prim.Native.Nat.{ℕ}
use native.Mathlib.Omega.{arith}
use lib.Bits.{bit_and}
use Rattle.fields.proofs.QuickLaws.{quick-missing}
use Rattle.fields.proofs.sets.lowest_missing.Goals as goal

pub returns : goal.returns
returns c =
    let a = c.args in
    let q = c.required_word-required.result in
    let e : bit_and c.word_at.result q ≡ q = omega arith in
    quick-missing a.messagetype a.map.now (λ k. (c.type_inv.map k).fits) q c.required_word-required.ensures
    (ap (λ (x : ℕ). bit_and x q) (sym c.word_at.ensures) ∙ e)
