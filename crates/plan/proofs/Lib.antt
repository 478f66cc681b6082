pub mod PlanLaws
pub mod PlanShape
pub mod JoinPairs
pub mod JoinLaws
pub mod PlansJoin
pub mod WorkedJoin
