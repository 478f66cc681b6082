-- `wire::text::put_variable` meets its contract: a text that is taken is shorter than 4,096.
use Rattle.std.proofs.Common.{sym, ◌∙◌, arith}
use Rattle.wire.specs.Text.{variable_bytes, put_variable, variable_laid}
use Rattle.wire.proofs.TextLaws.{Taken, taken, text-refused, text-laid}
use Rattle.wire.proofs.text.put_variable.Goals as goal

pub returns-then-not-takes_text : goal.returns-then-not-takes_text
unfolding put_variable variable_laid
returns-then-not-takes_text c =
    let a = c.args in
    text-refused (variable_bytes a.t.now) a.d.now _ (sym c.takes_text.ensures ∙ c.if-not-takes_text.true)

pub lay_variable-requires : goal.lay_variable-requires
lay_variable-requires c = let f : Taken _ _ _ = taken _ _ _ (sym c.takes_text.ensures ∙ c.if-not-takes_text.false) in omega arith

pub returns : goal.returns
unfolding put_variable variable_laid
returns c =
    let a = c.args in
    text-laid (variable_bytes a.t.now) a.d.now _ _ _ (sym c.takes_text.ensures ∙ c.if-not-takes_text.false) c.lay_variable.ensures
