pub mod Entries
pub mod Noted
pub mod NotedLaws
pub mod Places
