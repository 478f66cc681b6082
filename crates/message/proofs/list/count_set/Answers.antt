use mathlib.Core.Path.{◌≡◌, ap}
use mathlib.Core.List.{List}
use Prim.Native.Nat.{ℕ}
use native.Mathlib.Omega.{arith}
use lib.Count.{count_leading_zeros, leading_le}
use lib.ListN.{length}
use Rattle.fields.proofs.HeadLaws.{Found, ahead-start, ahead_none, ahead-first, positions-count}
use Rattle.message.proofs.ListLaws.{fits}
use Rattle.message.proofs.list.count_set.Invariants.{Counting}
use Rattle.message.proofs.list.count_set.Goals as goal

found : (m : List ℕ) (left n : ℕ) (i : Counting m left n) → (left ≡ 0 → ⊥) → Found m i.from left (count_leading_zeros 64 left)
found m left n i h = ahead-first m left i.from i.ahead h

pub loop-left-init : goal.loop-left-init
loop-left-init c = record { from = 0; ahead = ahead-start _ _ c.head-left.ensures c.requires; all = omega arith }

pub overflow_cast-p : goal.overflow_cast-p
overflow_cast-p c = fits _ (leading_le 64 _)

pub overflow_add-n : goal.overflow_add-n
overflow_add-n c =
    let l = c.loop-left in
    let i = l.invariant in
    omega (arith, i.all, positions-count c.args.map.now 64 0)

pub overflow_shr-left : goal.overflow_shr-left
overflow_shr-left c = let l = c.loop-left in (found _ _ _ l.invariant c.loop-left-test.true).below

pub loop-left-smaller : goal.loop-left-smaller
loop-left-smaller c = let l = c.loop-left in (found _ _ _ l.invariant c.loop-left-test.true).less

pub loop-left-preserved : goal.loop-left-preserved
loop-left-preserved c =
    let l = c.loop-left in
    let i = l.invariant in
    let x = found _ _ _ i c.loop-left-test.true in
    record { from = _; ahead = x.on; all = omega (arith, i.all, ap length x.first) }

pub returns : goal.returns
returns c =
    let l = c.loop-left in
    let i = l.invariant in
    omega (arith, i.all, ap length (ahead_none _ i.from l.left i.ahead c.loop-left-test.false))
