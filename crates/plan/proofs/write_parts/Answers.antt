use mathlib.Core.Path.{subst}
use mathlib.Core.List.{List}
use Prim.Native.Nat.{ℕ, ◌+◌}
use lib.ListN.{drop}
use Rattle.plan.specs.Plan.{Part, gap_fill, parts_from}
use Rattle.plan.proofs.PlanLaws.{Written, written-part, written_all, no-part-left}
use Rattle.plan.proofs.write_parts.Goals as goal

-- the parts to write
abbrev all : ℕ → List ℕ → List Part
all start list = parts_from (start + 1) (drop start list)

pub loop-i-preserved : goal.loop-i-preserved
loop-i-preserved c =
    let a = c.args in
    let next = c.part_at-reach.result.next in (
      c.part_at-reach.ensures.i_lt_next.1,
      written-part (all a.start a.list.now) (parts_from (next + 1) (drop next a.list.now)) (gap_fill (c.loop-i.i + 1) c.part_at-reach.result.new) a.d.now c.loop-i.d c.loop-i.at c.requires.2
          (subst (λ (r : List Part). Written (all a.start a.list.now) r a.d.now c.loop-i.d c.loop-i.at) c.part_at-reach.ensures.i_value c.loop-i.invariant.1),
    )

pub returns : goal.returns
returns c =
    let a = c.args in
    written_all (all a.start a.list.now) a.d.now c.loop-i.d c.loop-i.at
    (subst (λ (r : List Part). Written (all a.start a.list.now) r a.d.now c.loop-i.d c.loop-i.at) (no-part-left a.list.now c.loop-i.i c.loop-i-test.false) c.loop-i.invariant.1)
