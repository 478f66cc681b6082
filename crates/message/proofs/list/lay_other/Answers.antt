-- `message::list::lay_other` meets its contract: each value has its five numbers.
use mathlib.Core.Path.{refl, ap, ◌∙◌}
use Rattle.std.specs.Prelude.{Ok}
use Rattle.tables.specs.Tables.{row_of}
use Rattle.message.specs.List.{five}
use Rattle.message.proofs.ListLaws.{set_value, told-laid, decimal-laid}
use Rattle.message.proofs.list.lay_other.Goals as goal

pub returns-in-Ok-Number : goal.returns-in-Ok-Number
unfolding five
returns-in-Ok-Number c =
    let a = c.args in
    let x =
    told-laid (row_of a.messagetype a.p) a.whole a.p _ _ a.s.now a.d.now _ _ _ c.text_start-at.ensures c.extent_at-taken.ensures
    (set_value (row_of a.messagetype) a.map.now a.p a.s.now _ _ c.requires.1 c.value_in.ensures (c.in-Ok-Number.is ∙ ap Ok c.in-Ok-Number.field-0-is)) refl c.lay_five.ensures
    in record { value = x.0; d_after = x.1 }

pub returns-in-Ok-Decimal : goal.returns-in-Ok-Decimal
returns-in-Ok-Decimal c =
    let a = c.args in
    let q = set_value (row_of a.messagetype) a.map.now a.p a.s.now _ _ c.requires.1 c.value_in.ensures (c.in-Ok-Decimal.is ∙ ap Ok c.in-Ok-Decimal.field-0-is) in
    let x =
    decimal-laid (row_of a.messagetype a.p) a.whole a.p _ _ _ a.s.now a.d.now _ _ c.text_start-at.ensures c.extent_at-taken.ensures q
    (λ i. (c.type_inv.s i).fits) c.read_eight.ensures c.lay_five-in-Ok-Decimal.ensures
    in record { value = x.0; d_after = x.1 }

pub returns-in-Ok-Text : goal.returns-in-Ok-Text
unfolding five
returns-in-Ok-Text c =
    let a = c.args in
    let x =
    told-laid (row_of a.messagetype a.p) a.whole a.p _ _ a.s.now a.d.now _ _ _ c.text_start-at.ensures c.extent_at-taken.ensures
    (set_value (row_of a.messagetype) a.map.now a.p a.s.now _ _ c.requires.1 c.value_in.ensures (c.in-Ok-Text.is ∙ ap Ok c.in-Ok-Text.field-0-is)) refl c.lay_five-in-Ok-Text.ensures
    in record { value = x.0; d_after = x.1 }

pub returns-in-Err : goal.returns-in-Err
unfolding five
returns-in-Err c =
    let a = c.args in
    let x =
    told-laid (row_of a.messagetype a.p) a.whole a.p _ _ a.s.now a.d.now _ _ _ c.text_start-at.ensures c.extent_at-taken.ensures
    (set_value (row_of a.messagetype) a.map.now a.p a.s.now _ _ c.requires.1 c.value_in.ensures c.in-Err.is) refl c.lay_five-in-Err.ensures
    in record { value = x.0; d_after = x.1 }
