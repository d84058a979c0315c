pub mod Trials
pub mod Unread
