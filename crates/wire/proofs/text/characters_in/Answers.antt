use Rattle.std.specs.Option.{unwrap_or}
use Rattle.std.proofs.lemmas.Iterator.{YieldsList-from_slice}
use Rattle.std.proofs.lemmas.Iterator.Adapters.{position_from-zero}
use Rattle.std.proofs.lemmas.Iterator.Search.{position_from_yields_List}
use Rattle.wire.specs.Text.{is_character, characters}
use Rattle.std.proofs.Common.{ℕ, ◌+◌, ◌-◌, Option, not, length, take, drop, ap, ◌∙◌, zero-add, arith, length-drop, rules}
use lib.Count.{trailing_le}
use Rattle.wire.proofs.TestLaws.{rest_of}
use Rattle.wire.proofs.MarkLaws.{eight-more, stops-within}
use Rattle.wire.proofs.TextLaws.{count-place}
use Rattle.wire.proofs.text.characters_in.Goals as goal

pub loop-i-init : goal.loop-i-init
loop-i-init c = (search rules, zero-add _)

pub outside-marked-requires : goal.outside-marked-requires
outside-marked-requires c = rw (rest_of, length-drop) (omega arith)

pub overflow_cast-result : goal.overflow_cast-result
overflow_cast-result c = omega (arith, trailing_le 64 c.outside-marked.result)

pub overflow_add-result : goal.overflow_add-result
overflow_add-result c = omega (arith, trailing_le 64 c.outside-marked.result)

pub returns-then-marked-ne0 : goal.returns-then-marked-ne0
returns-then-marked-ne0 c =
    let o = c.outside-marked in
    stops-within _ c.args.s.now c.loop-i.i o.result c.loop-i.invariant.1 o.ensures (omega arith) c.if-marked-ne0.true

pub loop-i-preserved : goal.loop-i-preserved
loop-i-preserved c =
    let o = c.outside-marked in
    (omega arith, eight-more _ c.args.s.now c.loop-i.i o.result c.loop-i.invariant.1 o.ensures c.if-marked-ne0.false)

pub returns : goal.returns
returns c =
    let a = c.args in
    let s = a.s.now in
    let i = c.loop-i.i in
    let rest = take (length s - i) (drop i s) in
    let p = position_from_yields_List (λ b. not (is_character a.allowed b)) _ _ _ c.position.ensures.ran (YieldsList-from_slice rest cc) (λ x b q k. search rules) in
    ap (λ (n : ℕ). i + n) (c.unwrap_or.ensures ∙ ap (λ (r : Option ℕ). unwrap_or r (length rest)) (p ∙ position_from-zero _ rest)
    ∙ count-place a.allowed rest ∙ ap (characters a.allowed) (rest_of s i)) ∙ c.loop-i.invariant.1
