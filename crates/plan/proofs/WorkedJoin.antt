-- What `plans-follow`, `plans-touch` and `plans-joined` suppose can be met, and both cases occur: document 01's list 0 1 0 0 1, cut behind 2, a
-- business number, and behind 3, where 3 and 4 are both session numbers.
use Prim.Native.Nat.{ℕ}
use mathlib.Core.Path.{◌≡◌, refl}
use mathlib.Core.Bool.{true≢false}
use mathlib.Core.List.{List, [], ◌∷◌, ◌++◌}
use mathlib.Core.Logic.{inl}
use native.Mathlib.Omega.{arith}
use Rattle.plan.specs.Plan.{session, parts_from, last_number, parts_of, pairs}
use Rattle.plan.specs.Join.{touch as touches, before, join, parts_in, joined, plan_pairs, is_session, Touching}
use Rattle.plan.proofs.PlansJoin.{plans-follow, plans-touch, plans-joined, open-follow}

abbrev list : List ℕ
list = 0 ∷ 1 ∷ 0 ∷ 0 ∷ 1 ∷ []

pub record Worked : Type 0 where
  pub whole : plan_pairs list 1 5 ≡ 1 ∷ 2 ∷ 2 ∷ 0 ∷ 3 ∷ 5 ∷ 5 ∷ 0 ∷ []
  -- behind 2 the plans follow each other
  pub to-two : plan_pairs list 1 2 ≡ 1 ∷ 2 ∷ 2 ∷ 0 ∷ []
  pub from-three : plan_pairs list 3 5 ≡ 3 ∷ 5 ∷ 5 ∷ 0 ∷ []
  pub follow : plan_pairs list 1 2 ++ plan_pairs list 3 5 ≡ plan_pairs list 1 5
  -- behind 3 they do not, and joined they are the whole
  pub to-three : plan_pairs list 1 3 ≡ 1 ∷ 2 ∷ 2 ∷ 0 ∷ 3 ∷ 4 ∷ []
  pub from-four : plan_pairs list 4 5 ≡ 4 ∷ 5 ∷ 5 ∷ 0 ∷ []
  pub follow-not : plan_pairs list 1 3 ++ plan_pairs list 4 5 ≡ plan_pairs list 1 5 → ⊥
  pub touch : Touching (plan_pairs list 1 3) (plan_pairs list 4 5) (plan_pairs list 1 5)
  pub joined-whole : pairs (joined (plan_pairs list 1 3) (plan_pairs list 4 5)) ≡ plan_pairs list 1 5
  pub joined-pairs : pairs (joined (plan_pairs list 1 3) (plan_pairs list 4 5)) ≡ 1 ∷ 2 ∷ 2 ∷ 0 ∷ 3 ∷ 5 ∷ 5 ∷ 0 ∷ []
  -- with an End of 0 too
  pub end-zero : plan_pairs list 1 2 ++ plan_pairs list 3 0 ≡ plan_pairs list 1 0

pub worked : Worked
unfolding session parts_from last_number parts_of pairs touches before join parts_in is_session
worked = record {
  whole = refl;
  to-two = refl;
  from-three = refl;
  follow = (plans-follow list 1 2 5 (omega arith) (omega arith) (omega arith) (omega arith)).1 refl;
  to-three = refl;
  from-four = refl;
  follow-not = λ q. true≢false ((plans-follow list 1 3 5 (omega arith) (omega arith) (omega arith) (omega arith)).0 q);
  touch = plans-touch list 1 3 5 (omega arith) (omega arith) (omega arith) (omega arith) refl;
  joined-whole = plans-joined list 1 3 5 (omega arith) (omega arith) (omega arith) (omega arith);
  joined-pairs = refl;
  end-zero = (open-follow list 1 2 0 (omega arith) (omega arith) (omega arith) (inl refl)).1 refl;
}
