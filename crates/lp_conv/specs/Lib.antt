pub mod AnswerLaws
pub mod Answers
pub mod BudgetLaws
pub mod Conversion
pub mod Growth
pub mod GrowthLaws
pub mod HeadSteps
pub mod Heads
