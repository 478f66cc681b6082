-- `session::held::is_plain_comp_id` meets its contract: a good text, and zeros after it.
use lib.ListN.{length}
use mathlib.Core.Path.{◌∙◌}
use native.Mathlib.Omega.{arith}
use borrow.Author.Tests.{le-leb, lt-leb}
use Rattle.session.specs.Held.{is_plain_comp_id}
use Rattle.session.proofs.HeldLaws.{zero_ended, zero_rest, seen_as}
use Rattle.session.proofs.held.is_plain_comp_id.Goals as goal

pub returns-then-text-eq0 : goal.returns-then-text-eq0
unfolding is_plain_comp_id
returns-then-text-eq0 c =
    let e = c.fixed_part-text.ensures in
    let n = length c.fixed_part-text.result.now in
    simp (← e, seen_as _ _ e ∙ lt-leb 1 n (omega arith))

pub returns-then-ours-text : goal.returns-then-ours-text
unfolding is_plain_comp_id
returns-then-ours-text c =
    let e = c.fixed_part-text.ensures in
    let s = c.args.ours.now in
    let n = length c.fixed_part-text.result.now in
    simp (← e, seen_as _ _ e ∙ le-leb 1 n (omega arith), zero_ended s n (omega arith))

pub returns : goal.returns
unfolding is_plain_comp_id
returns c =
    let e = c.fixed_part-text.ensures in
    let s = c.args.ours.now in
    let n = length c.fixed_part-text.result.now in
    simp (← e, seen_as _ _ e ∙ le-leb 1 n (omega arith)) (c.is_all_zero.ensures ∙ zero_rest s n)
