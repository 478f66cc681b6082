-- `wire::text::put_fixed` meets its contract: a text that is taken is shorter than its width.
use Rattle.std.proofs.Common.{sym, ◌∙◌, le_of_lt}
use Rattle.wire.specs.Text.{fixed_bytes, put_fixed, fixed_laid}
use Rattle.wire.proofs.TextLaws.{taken, text-refused, text-laid}
use Rattle.wire.proofs.text.put_fixed.Goals as goal

pub returns-then-not-takes_text : goal.returns-then-not-takes_text
unfolding put_fixed fixed_laid
returns-then-not-takes_text c =
    let a = c.args in
    text-refused (fixed_bytes a.width a.t.now) a.d.now _ (sym c.takes_text.ensures ∙ c.if-not-takes_text.true)

pub lay_fixed-requires : goal.lay_fixed-requires
lay_fixed-requires c = le_of_lt (taken _ _ _ (sym c.takes_text.ensures ∙ c.if-not-takes_text.false)).room

pub returns : goal.returns
unfolding put_fixed fixed_laid
returns c =
    let a = c.args in
    text-laid (fixed_bytes a.width a.t.now) a.d.now _ _ _ (sym c.takes_text.ensures ∙ c.if-not-takes_text.false) c.lay_fixed.ensures
