pub mod Confluence
pub mod Developments
pub mod Examples
pub mod InjectiveProducts
pub mod ParallelSteps
pub mod SubjectReduction
