-- `wire::text::fixed_text` meets its contract: the null is looked for among the first `width` bytes.
use Rattle.std.proofs.Common.{sym, ◌∙◌, arith, length-take-le}
use borrow.Author.Tests.{lt-leb}
use Rattle.wire.specs.Text.{ended, fixed_text}
use Rattle.wire.proofs.TextLaws.{fixed-read}
use Rattle.wire.proofs.text.fixed_text.Goals as goal

pub returns-then-s-width : goal.returns-then-s-width
unfolding fixed_text
returns-then-s-width c = simp (lt-leb _ _ c.if-s-width.true)

pub slice_bounds-null_in-end : goal.slice_bounds-null_in-end
slice_bounds-null_in-end c =
    let a = c.args in
    sym (length-take-le a.width a.s.now (omega arith))

pub returns : goal.returns
unfolding ended
returns c =
    let a = c.args in
    sym (fixed-read _ a.width a.s.now _ (omega arith) (sym c.null_in.ensures ∙ c.in_ok-characters.was))

pub returns-in_err-characters : goal.returns-in_err-characters
unfolding ended
returns-in_err-characters c =
    let a = c.args in
    c.from_residual.ensures ∙ sym (fixed-read _ a.width a.s.now _ (omega arith) (sym c.null_in.ensures ∙ c.in_err-characters.was))
