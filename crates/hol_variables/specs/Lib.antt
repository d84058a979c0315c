pub mod Lists
pub mod Packed
pub mod Noted
pub mod NotedLaws
pub mod Variables
