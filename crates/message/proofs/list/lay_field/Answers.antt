-- `message::list::lay_field` meets its contract: each shape has its five numbers.
use mathlib.Core.Path.{sym, ◌∙◌}
use lib.Seq.{length-take-le}
use Rattle.message.proofs.ListLaws.{quick-number-room, quick-number, quick-decimal, quick-fixed-room, quick-fixed}
use Rattle.message.proofs.list.lay_field.Goals as goal

pub number_in-requires : goal.number_in-requires
number_in-requires c =
    let a = c.args in
    let good = c.requires.sum_bytes_len_bound.1 in
    quick-number-room a.messagetype a.p a.whole a.s.now good _ (sym c.shape_at.ensures ∙ c.in-Number.is)

pub slice_bounds-characters_in-end : goal.slice_bounds-characters_in-end
slice_bounds-characters_in-end c =
    let a = c.args in
    let good = c.requires.sum_bytes_len_bound.1 in
    sym (length-take-le _ a.s.now (quick-fixed-room a.messagetype a.p a.whole a.s.now good _ _ (sym c.shape_at.ensures ∙ c.in-Fixed.is)))

pub returns-in-Number : goal.returns-in-Number
returns-in-Number c =
    let a = c.args in
    let good = c.requires.sum_bytes_len_bound.1 in
    let x =
    quick-number a.messagetype a.p a.whole a.s.now good _ (sym c.shape_at.ensures ∙ c.in-Number.is) _ a.d.now _ c.number_in.ensures c.lay_five.ensures
    in record { value = x.0; d_after = x.1 }

pub returns-in-Decimal : goal.returns-in-Decimal
returns-in-Decimal c =
    let a = c.args in
    let good = c.requires.sum_bytes_len_bound.1 in
    let x =
    quick-decimal a.messagetype a.p a.whole a.s.now good (sym c.shape_at.ensures ∙ c.in-Decimal.is) _ a.d.now _ (λ i. (c.type_inv.s i).fits) c.read_eight.ensures c.lay_five-in-Decimal.ensures
    in record { value = x.0; d_after = x.1 }

pub returns-in-Fixed : goal.returns-in-Fixed
returns-in-Fixed c =
    let a = c.args in
    let good = c.requires.sum_bytes_len_bound.1 in
    let x =
    quick-fixed a.messagetype a.p a.whole a.s.now good _ _ (sym c.shape_at.ensures ∙ c.in-Fixed.is) _ a.d.now _ c.characters_in.ensures c.lay_five-in-Fixed.ensures
    in record { value = x.0; d_after = x.1 }
