pub mod FittingLaws
pub mod GatheringLaws
pub mod PlanLaws
