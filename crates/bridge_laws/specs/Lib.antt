pub mod ArticleHeadlines
pub mod FoldedHeadlines
pub mod FormPromises
pub mod Headlines
pub mod PlainNames
pub mod RuleVariables
pub mod TrialBytes
pub mod WrittenNames
