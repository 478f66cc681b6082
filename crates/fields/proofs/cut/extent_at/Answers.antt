-- `fields::cut::extent_at` meets its contract: the shape stands for the extent.
use mathlib.Core.Path.{sym, ◌∙◌}
use Rattle.fields.proofs.ShapeLaws.{at-number, at-decimal, at-fixed}
use Rattle.fields.proofs.cut.extent_at.Goals as goal

pub returns-in-Number : goal.returns-in-Number
returns-in-Number c =
    let a = c.args in
    sym (at-number a.messagetype a.p a.s.now _ (sym c.shape_at.ensures ∙ c.in-Number.is)).taken

pub returns-in-Decimal : goal.returns-in-Decimal
returns-in-Decimal c =
    let a = c.args in
    sym (at-decimal a.messagetype a.p a.s.now (sym c.shape_at.ensures ∙ c.in-Decimal.is)).taken

pub returns-in-Fixed : goal.returns-in-Fixed
returns-in-Fixed c =
    let a = c.args in
    sym (at-fixed a.messagetype a.p a.s.now _ _ (sym c.shape_at.ensures ∙ c.in-Fixed.is)).taken
