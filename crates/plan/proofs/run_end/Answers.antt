use mathlib.Core.Path.{◌≡◌, subst, ◌∙◌}
use mathlib.Core.List.{◌∷◌}
use Prim.Native.Nat.{ℕ, ◌+◌}
use lib.ListN.{length}
use Rattle.plan.specs.Plan.{gap_fill, parts_at}
use native.Mathlib.Omega.{arith}
use Rattle.plan.proofs.PlanLaws.{run-opens, run-goes-on, run-ends-at-business, run-ends-with-list}
use Rattle.plan.proofs.run_end.Goals as goal

pub loop-end-init : goal.loop-end-init
loop-end-init c = let a = c.args in run-opens a.list.now a.i c.requires.0 c.requires.1

pub returns-then-list-end-eq1 : goal.returns-then-list-end-eq1
returns-then-list-end-eq1 c =
    let a = c.args in
    (omega arith, omega arith, c.loop-end.invariant ∙ run-ends-at-business a.list.now c.loop-end.end (omega arith) (a.i + 1) c.if-list-end-eq1.true)

pub loop-end-preserved : goal.loop-end-preserved
loop-end-preserved c =
    let a = c.args in
    c.loop-end.invariant ∙ run-goes-on a.list.now c.loop-end.end (omega arith) (a.i + 1) c.if-list-end-eq1.false

pub returns : goal.returns
returns c =
    let l = c.args.list.now in
    let i = c.args.i in
    let ended : c.loop-end.end ≡ length l = omega arith in
    (omega arith, omega arith, subst (λ (n : ℕ). parts_at l i ≡ gap_fill (i + 1) (n + 1) ∷ parts_at l n) ended (c.loop-end.invariant ∙ run-ends-with-list l c.loop-end.end (i + 1) (omega arith)))
