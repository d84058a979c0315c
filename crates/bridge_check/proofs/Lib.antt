pub mod Answered
pub mod Counts
pub mod Judgements
