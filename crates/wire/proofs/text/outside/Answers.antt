-- `wire::text::outside` meets its contract: up to the first byte that is no character nothing is borrowed or carried in the word.
use Rattle.std.proofs.Common.{take, sym, ap, ◌∙◌}
use Rattle.wire.specs.declared.text.Allowed.{Allowed}
use Rattle.wire.specs.declared.text.Allowed.TheVariants.{Ascii, Accented}
use Rattle.wire.specs.Text.{characters}
use Rattle.wire.proofs.MarkLaws.{lowered, looked, eight-counted}
use Rattle.wire.proofs.text.outside.Goals as goal

pub returns-in-Ascii : goal.returns-in-Ascii
unfolding lowered looked
returns-in-Ascii c =
    let d = c.wrapping_sub_u64-below in
    let w = c.read_eight-word in
    eight-counted Ascii c.args.s.now w.result d.result c.wrapping_add_u64-above.result c.requires (λ i. (c.type_inv.s i).fits)
    w.ensures d.ensures.value c.wrapping_add_u64-above.ensures.value
    ∙ ap (λ (x : Allowed). characters x (take 8 c.args.s.now)) (sym c.in-Ascii.is)

pub returns-in-Accented : goal.returns-in-Accented
unfolding lowered looked
returns-in-Accented c =
    let d = c.wrapping_sub_u64-below in
    let w = c.read_eight-word in
    eight-counted Accented c.args.s.now w.result d.result c.wrapping_add_u64-above-in-Accented.result c.requires (λ i. (c.type_inv.s i).fits)
    w.ensures d.ensures.value c.wrapping_add_u64-above-in-Accented.ensures.value
    ∙ ap (λ (x : Allowed). characters x (take 8 c.args.s.now)) (sym c.in-Accented.is)
