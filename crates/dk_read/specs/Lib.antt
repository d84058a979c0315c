pub mod Names
pub mod States
pub mod ProgressCode
pub mod Texts
pub mod Readers
pub mod Firsts
pub mod Sharing
pub mod Shared
