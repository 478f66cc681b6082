-- `wire::map::set_present` meets its contract: past the end and where the place is set nothing changes, and elsewhere the place's mask is added.
use Rattle.std.proofs.Common.{◌/◌, ◌%◌, ◌<◌, get_or, sym, ◌∙◌, arith}
use Rattle.wire.proofs.MapLaws.{mask_at, with-bit-small, with-past, with-present, with-added}
use Rattle.wire.proofs.map.set_present.Goals as goal

pub returns-then-map-i : goal.returns-then-map-i
returns-then-map-i c =
    let a = c.args in
    sym (with-past a.p a.map.now c.if-map-i.true)

pub returns-then-bit_at : goal.returns-then-bit_at
returns-then-bit_at c =
    let a = c.args in
    sym (with-present a.p a.map.now c.if-map-i.false (sym c.bit_at.ensures ∙ c.if-bit_at.true))

pub overflow_add-map : goal.overflow_add-map
overflow_add-map c =
    let a = c.args in
    let j : a.p % 8 < 8 = omega arith in
    omega (arith, mask_at (a.p % 8) j, with-bit-small (get_or a.map.now (a.p / 8) 0) (a.p % 8) j (sym c.bit_at.ensures ∙ c.if-bit_at.false) (omega (arith, c.slice_known-2-1.given (a.p / 8))))

pub returns : goal.returns
returns c =
    let a = c.args in
    with-added a.p a.map.now c.if-map-i.false (sym c.bit_at.ensures ∙ c.if-bit_at.false)
