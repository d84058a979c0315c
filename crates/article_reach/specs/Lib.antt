pub mod Found
pub mod FoundPairs
pub mod Least
pub mod Looked
pub mod Reached
pub mod Walks
