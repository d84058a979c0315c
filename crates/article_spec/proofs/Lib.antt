pub mod DefinitionRows
pub mod EdgeCases
pub mod Examples
pub mod RuleRows
pub mod SmallArticles
