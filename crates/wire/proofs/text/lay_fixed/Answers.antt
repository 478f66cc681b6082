-- `wire::text::lay_fixed` meets its contract: the text is laid at the front, and the bytes from there to the width are cleared.
use Rattle.std.proofs.Common.{◌≡◌, ℕ, ◌-◌, ◌≤◌, length, drop, replicate, ap, ◌∙◌, arith, length-drop, length-take-le}
use Rattle.wire.specs.Text.{fixed_bytes}
use Rattle.wire.proofs.LayingLaws.{laid-no, laid-yes}
use Rattle.wire.proofs.TextLaws.{length-fixed_bytes, lay-fixed}
use Rattle.wire.proofs.text.lay_fixed.Goals as goal

pub returns-then-d-width : goal.returns-then-d-width
returns-then-d-width c =
    let a = c.args in
    let w = a.width in
    let t = a.t.now in
    laid-no (fixed_bytes w t) a.d.now w (length-fixed_bytes w t (omega arith)) (omega arith)

pub returns : goal.returns
returns c =
    let a = c.args in
    let w = a.width in
    let t = a.t.now in
    let d = c.lay.new.d in
    let n = length t in
    let f : n ≤ w = omega arith in
    let k : length d ≡ length a.d.now = c.lay.auto.d in
    let m : w - n ≤ length (drop n d) = rw length-drop (omega arith) in
    laid-yes (fixed_bytes w t) a.d.now w (length-fixed_bytes w t f) (omega arith) _
    (lay-fixed a.d.now t d c.clear.new.d w f c.lay.ensures
    (c.clear.ensures ∙ ap (λ (j : ℕ). replicate j 0) (length-take-le (w - n) (drop n d) m)))
