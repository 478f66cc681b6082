-- `plan::all_marked` meets its contract: the marks are all 0 or 1, or one is more.
use Prim.Native.Nat.{◌<◌, ◌≤◌}
use borrow.Author.Rules.{rules}
use borrow.Author.Tests.{tests}
use Rattle.std.proofs.lemmas.Iterator.{cases_from_all, YieldsList-from_slice}
use Rattle.plan.proofs.PlanLaws.{marks-told}
use Rattle.plan.proofs.all_marked.Goals as goal

pub returns : goal.returns
returns c =
    marks-told c.args.list.now c.all.result
    (cases_from_all _ _ _ (λ b. b ≤ 1) (λ b. 1 < b) c.all.ensures.ran (YieldsList-from_slice c.args.list.now cc) (λ x q k. search (rules, tests)) (λ x q k. search (rules, tests)))
