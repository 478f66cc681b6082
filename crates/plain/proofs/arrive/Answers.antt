use mathlib.Core.Path.{◌≡◌, sym, ap, ◌∙◌}
use mathlib.Core.Bool.{true}
use Prim.Native.Nat.{◌<◌}
use native.Mathlib.Omega.{arith}
use lib.ListN.{length}
use Rattle.plain.specs.Arrivals.{is_full}
use Rattle.plain.proofs.ListLaws.{full-nothing, has_room, is-full, has-none}
use Rattle.plain.proofs.WalkLaws.{walked_none, walked_next, walked_all, walked-answer}
use Rattle.plain.proofs.arrive.Goals as goal
use Rattle.plain.proofs.arrive.Goals.{then-count-ge-MOST_ARRIVALS-via-then-count-ge-MOST_ARRIVALS, then-count-ge-MOST_ARRIVALS-via-else-count-ge-MOST_ARRIVALS+then-list-count}
use Rattle.plain.specs.Plain.{ruled}

pub returns-then-count-ge-MOST_ARRIVALS : goal.returns-then-count-ge-MOST_ARRIVALS
returns-then-count-ge-MOST_ARRIVALS c =
    let a = c.args in
    let h : is_full a.list.now a.count ≡ true = elim c.then-count-ge-MOST_ARRIVALS.branch [
      | then-count-ge-MOST_ARRIVALS-via-then-count-ge-MOST_ARRIVALS w ↦ is-full a.list.now a.count w.if-count-ge-MOST_ARRIVALS.true
      | then-count-ge-MOST_ARRIVALS-via-else-count-ge-MOST_ARRIVALS+then-list-count w ↦ has-none a.list.now a.count w.if-list-count.true
    ] in
    let f = full-nothing a.list.now a.count a.line h in
    record { value = sym f.0; list_after = sym f.1 }

pub loop-a-init : goal.loop-a-init
loop-a-init c = walked_none _ _

pub loop-a-preserved : goal.loop-a-preserved
loop-a-preserved c = walked_next _ _ _ _ c.loop-a.invariant (omega arith) _ (c.ruled-told.ensures ∙ ap (ruled c.loop-a.told.day) c.line_in.ensures)

pub returns : goal.returns
returns c =
    let a = c.args in
    let l = a.list.now in
    let h : a.count < length l = c.if-list-count.false in
    let room = has_room l a.count c.if-count-ge-MOST_ARRIVALS.false h in
    let x = c.numbers.ensures in
    let last = walked_all _ _ _ _ c.loop-a.invariant (omega arith) in
    let k = walked-answer l a.count a.line _ _ _ room x c.tells-told.ensures last in
    record { value = k.0; list_after = k.1 }
