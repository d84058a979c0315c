pub mod PassedArticles
pub mod Outcomes
pub mod Readings
pub mod BegunArticles
pub mod LastVersions
