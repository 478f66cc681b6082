-- `plan::join` meets its contract: half a pair, no room, or the two plans joined.
use Prim.Native.Nat.{ℕ, ◌+◌, ◌-◌, ◌/◌, ◌%◌}
use mathlib.Core.Path.{◌≡◌, refl, ap, ap₂, ◌∙◌}
use mathlib.Core.Bool.{Bool, true, ◌&&◌}
use native.Mathlib.Omega.{arith}
use mathlib.Core.List.{List}
use lib.ListN.{length}
use Rattle.plan.specs.Join.{is_pairs, joined, seam}
use Rattle.plan.proofs.PlanLaws.{refused, no_room, wrote}
use Rattle.plan.proofs.JoinPairs.{is_whole, not-whole, falls, falls-within, joined_length, joined-pairs}
use Rattle.plan.proofs.join.Goals as goal

module _ (one other : List ℕ) (h : length one % 2 ≡ 0) (l : length other % 2 ≡ 0) where
  -- both are whole pairs
  one-whole : is_pairs one ≡ true
  one-whole = is_whole one h

  other-whole : is_pairs other ≡ true
  other-whole = is_whole other l

  both-whole : (is_pairs one && is_pairs other) ≡ true
  both-whole = ap₂ (λ (t u : Bool). t && u) one-whole other-whole

  -- how many pairs are needed
  needed : (cut : ℕ) → cut ≡ seam one other → (length one + (length other - cut)) / 2 ≡ length (joined one other)
  needed cut q = ap (λ (n : ℕ). (length one + (length other - n)) / 2) q ∙ joined-pairs one other one-whole other-whole

pub returns-then-one-ne0 : goal.returns-then-one-ne0
returns-then-one-ne0 c =
    let a = c.args in
    refused (joined a.one.now a.other.now) a.d.now
    (ap (λ (t : Bool). t && is_pairs a.other.now) (not-whole a.one.now c.if-one-ne0.true))

pub returns-then-other-ne0 : goal.returns-then-other-ne0
returns-then-other-ne0 c =
    let a = c.args in
    refused (joined a.one.now a.other.now) a.d.now
    (ap₂ (λ (t u : Bool). t && u) (is_whole a.one.now c.if-one-ne0.false) (not-whole a.other.now c.if-other-ne0.true))

pub overflow_sub-pairs : goal.overflow_sub-pairs
overflow_sub-pairs c = let a = c.args in omega (arith, c.seam-cut.ensures, falls-within (falls a.one.now a.other.now))

pub returns-then-d-pairs : goal.returns-then-d-pairs
returns-then-d-pairs c =
    let a = c.args in
    no_room a.d.now (both-whole a.one.now a.other.now c.if-one-ne0.false c.if-other-ne0.false) (joined a.one.now a.other.now) refl _ (needed a.one.now a.other.now c.if-one-ne0.false c.if-other-ne0.false _ c.seam-cut.ensures) c.if-d-pairs.true

pub write_joined-requires : goal.write_joined-requires
write_joined-requires c =
    let a = c.args in
    let size = joined_length a.one.now a.other.now (one-whole a.one.now a.other.now c.if-one-ne0.false c.if-other-ne0.false) (other-whole a.one.now a.other.now c.if-one-ne0.false c.if-other-ne0.false) in
    (one-whole a.one.now a.other.now c.if-one-ne0.false c.if-other-ne0.false, other-whole a.one.now a.other.now c.if-one-ne0.false c.if-other-ne0.false, c.seam-cut.ensures, omega (arith, size, c.seam-cut.ensures, needed a.one.now a.other.now c.if-one-ne0.false c.if-other-ne0.false _ c.seam-cut.ensures, c.if-d-pairs.false))

pub returns : goal.returns
returns c =
    let a = c.args in
    wrote a.d.now (both-whole a.one.now a.other.now c.if-one-ne0.false c.if-other-ne0.false) (joined a.one.now a.other.now) refl _ (needed a.one.now a.other.now c.if-one-ne0.false c.if-other-ne0.false _ c.seam-cut.ensures) c.if-d-pairs.false _ c.write_joined.ensures
