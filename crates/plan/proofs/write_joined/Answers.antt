-- `plan::write_joined` meets its contract: the numbers that do not fall away are laid, and where a pair has fallen the one's last number is the other's second.
use Prim.Native.Nat.{ℕ, ◌-◌, ◌≤◌}
use mathlib.Core.Path.{◌≡◌, sym, ap, subst, ◌∙◌}
use mathlib.Core.List.{List, ◌++◌}
use native.Mathlib.Omega.{arith}
use lib.ListN.{length, take, drop}
use borrow.Author.Rules.{rules}
use Rattle.wire.specs.Laying.{at_front}
use Rattle.wire.proofs.TestLaws.{rest_of}
use Rattle.plan.specs.Join.{seam}
use Rattle.plan.proofs.JoinPairs.{Falls, falls, falls-both, falls-within, laid-apart, laid-touching}
use Rattle.plan.proofs.write_joined.Goals as goal

module _ (one other : List ℕ) (cut : ℕ) (q : cut ≡ seam one other) where
  falls-here : Falls one other cut
  falls-here = subst (Falls one other) (sym q) (falls one other)

  within : cut ≤ length other
  within = falls-within falls-here

  -- where a pair has fallen away, each of the two has one
  both : cut ≡ 2 → (2 ≤ length one) × (2 ≤ length other)
  both h = falls-both falls-here h

-- what is lent of the other
more-is : (one other d : List ℕ) (cut : ℕ) → at_front (one ++ take (length other - cut) (drop cut other)) d ≡ at_front (one ++ drop cut other) d
more-is one other d cut = ap (λ (more : List ℕ). at_front (one ++ more) d) (rest_of other cut)

pub offset_bounds-other-cut : goal.offset_bounds-other-cut
offset_bounds-other-cut c = let w = within c.args.one.now c.args.other.now c.args.cut c.requires.2 in search rules

pub slice_bounds-lay_both-count : goal.slice_bounds-lay_both-count
slice_bounds-lay_both-count c = within c.args.one.now c.args.other.now c.args.cut c.requires.2

pub slice_bounds-lay_both-start : goal.slice_bounds-lay_both-start
slice_bounds-lay_both-start c = within c.args.one.now c.args.other.now c.args.cut c.requires.2

pub bounds-other-1 : goal.bounds-other-1
bounds-other-1 c = omega (arith, (both c.args.one.now c.args.other.now c.args.cut c.requires.2 c.if-cut-eq-A_PAIR.true).1)

pub overflow_sub-d : goal.overflow_sub-d
overflow_sub-d c = omega (arith, (both c.args.one.now c.args.other.now c.args.cut c.requires.2 c.if-cut-eq-A_PAIR.true).0)

pub bounds-d-one : goal.bounds-d-one
bounds-d-one c = omega (arith, (both c.args.one.now c.args.other.now c.args.cut c.requires.2 c.if-cut-eq-A_PAIR.true).0)

pub returns-then-cut-eq-A_PAIR : goal.returns-then-cut-eq-A_PAIR
returns-then-cut-eq-A_PAIR c =
    let a = c.args in
    laid-touching a.one.now a.other.now a.d.now c.requires.0 c.requires.1 _ a.cut c.requires.2
    (c.lay_both.ensures ∙ more-is a.one.now a.other.now a.d.now a.cut) c.if-cut-eq-A_PAIR.true

pub returns-else-cut-eq-A_PAIR : goal.returns-else-cut-eq-A_PAIR
returns-else-cut-eq-A_PAIR c =
    let a = c.args in
    laid-apart a.one.now a.other.now a.d.now c.requires.0 c.requires.1 _ a.cut c.requires.2
    (c.lay_both.ensures ∙ more-is a.one.now a.other.now a.d.now a.cut) c.if-cut-eq-A_PAIR.false
