-- `plan::plan` meets its contract: a bad request, no room, or the plan of the list up to the last number.
use mathlib.Core.Path.{◌≡◌, sym, ◌∙◌}
use mathlib.Core.Bool.{true}
use Prim.Native.Nat.{ℕ, ◌+◌, ◌-◌, ◌≤◌}
use native.Mathlib.Omega.{arith}
use mathlib.Core.List.{List}
use lib.ListN.{length, take, drop}
use lib.Seq.{length-take-le}
use Rattle.plan.specs.Plan.{parts_from, parts_of, is_request, last_number}
use Rattle.plan.proofs.PlanLaws.{Request, requested, parts-at-start, refused, no_room, wrote}
use Rattle.plan.proofs.plan.Goals as goal

module _ (list : List ℕ) (s e n : ℕ) (q : is_request list s e ≡ true) (h : n ≡ last_number list e) where
  request : Request list s e
  request = requested list s e q

  -- the first index lies within the part lent
  within : n ≤ length list → (s - 1 ≤ length (take n list)) × (length (take n list) ≤ 65536)
  within l =
      let k = length-take-le n list l in
      let r = request in
      (omega (arith, h, r.up-to-last), omega (arith, l, r.short))

  -- the parts from the first index on are the plan's
  named : parts_from (s - 1 + 1) (drop (s - 1) (take n list)) ≡ parts_of list s e
  named = parts-at-start list s e n request.from_one h

pub returns-then-not-is_request : goal.returns-then-not-is_request
returns-then-not-is_request c =
    let a = c.args in
    refused (parts_of a.list.now a.s a.e) a.d.now (sym c.is_request.ensures ∙ c.if-not-is_request.true)

pub overflow_sub-start : goal.overflow_sub-start
overflow_sub-start c = (requested c.args.list.now c.args.s c.args.e (sym c.is_request.ensures ∙ c.if-not-is_request.false)).from_one

pub count_parts-needed-requires : goal.count_parts-needed-requires
count_parts-needed-requires c = within c.args.list.now c.args.s c.args.e c.last_number-last.result (sym c.is_request.ensures ∙ c.if-not-is_request.false) c.last_number-last.ensures.0 c.last_number-last.ensures.1

pub returns-then-d-needed : goal.returns-then-d-needed
returns-then-d-needed c =
    let a = c.args in
    no_room a.d.now (sym c.is_request.ensures ∙ c.if-not-is_request.false) _ (named c.args.list.now c.args.s c.args.e c.last_number-last.result (sym c.is_request.ensures ∙ c.if-not-is_request.false) c.last_number-last.ensures.0) c.count_parts-needed.result c.count_parts-needed.ensures.0 c.if-d-needed.true

pub write_parts-requires : goal.write_parts-requires
write_parts-requires c =
    ((within c.args.list.now c.args.s c.args.e c.last_number-last.result (sym c.is_request.ensures ∙ c.if-not-is_request.false) c.last_number-last.ensures.0 c.last_number-last.ensures.1).0, (within c.args.list.now c.args.s c.args.e c.last_number-last.result (sym c.is_request.ensures ∙ c.if-not-is_request.false) c.last_number-last.ensures.0 c.last_number-last.ensures.1).1, omega (arith, c.count_parts-needed.ensures.0, c.if-d-needed.false))

pub returns : goal.returns
returns c =
    let a = c.args in
    wrote a.d.now (sym c.is_request.ensures ∙ c.if-not-is_request.false) _ (named c.args.list.now c.args.s c.args.e c.last_number-last.result (sym c.is_request.ensures ∙ c.if-not-is_request.false) c.last_number-last.ensures.0) c.count_parts-needed.result c.count_parts-needed.ensures.0
    c.if-d-needed.false _ c.write_parts.ensures
