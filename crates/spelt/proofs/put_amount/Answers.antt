-- `spelt::put_amount` meets its contract: the text, laid at once.
use mathlib.Core.Path.{◌≡◌, sym, ap, ◌∙◌}
use Prim.Native.Nat.{ℕ, ◌≤◌}
use native.Mathlib.Omega.{arith}
use mathlib.Core.List.{List}
use lib.ListN.{length}
use lib.Seq.{length-take-le}
use mir.Facts.{to_z-of_z}
use Rattle.wire.specs.Laying.{laid, laid_answer}
use Rattle.spelt.specs.Spelt.{amount_text}
use Rattle.spelt.proofs.put_amount.Goals as goal

pub slice_bounds-put_bytes-end : goal.slice_bounds-put_bytes-end
slice_bounds-put_bytes-end c =
    let l = c.spell_amount-n in
    let k : length l.new.d ≡ 30 = l.auto.d in
    let h : l.result ≤ length l.new.d = omega (arith, l.ensures.0) in
    sym (length-take-le l.result l.new.d h)

pub returns : goal.returns
returns c =
    let p = c.put_bytes in
    let e = c.spell_amount-n.ensures.1 ∙ ap amount_text (to_z-of_z c.ranges.z) in
    (p.ensures.0 ∙ ap (λ (x : List ℕ). laid_answer x c.args.d.now) e, p.ensures.1 ∙ ap (λ (x : List ℕ). laid x c.args.d.now) e)
