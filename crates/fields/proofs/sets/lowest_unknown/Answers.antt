-- `fields::sets::lowest_unknown` meets its contract: the quick tests leave no unknown position.
use mathlib.Core.Path.{◌≡◌, sym, ap, ◌∙◌}
use Prim.Native.Nat.{ℕ}
use native.Mathlib.Omega.{arith}
use lib.Bits.{bit_and}
use Rattle.fields.proofs.QuickLaws.{quick-unknown}
use Rattle.fields.proofs.sets.lowest_unknown.Goals as goal

pub returns : goal.returns
returns c =
    let a = c.args in
    let u = c.unknown_word.result in
    let e : bit_and c.word_at.result u ≡ 0 = omega arith in
    quick-unknown a.messagetype a.map.now (λ k. (c.type_inv.map k).fits) u c.unknown_word.ensures
    (ap (λ (x : ℕ). bit_and x u) (sym c.word_at.ensures) ∙ e) (c.is_low.ensures (c.if-not-is_low.false))
