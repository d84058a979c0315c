pub mod Indexes
pub mod MadeItems
pub mod Reached
pub mod Walks
