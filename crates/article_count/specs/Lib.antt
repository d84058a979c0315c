pub mod Counts
pub mod GivenCounts
pub mod LooseNumbers
pub mod Noted
pub mod StepCounts
pub mod TermTasks
pub mod TypeTasks
pub mod Used
