pub mod Cuts
pub mod Fed
pub mod Steps
pub mod Whole
pub mod Words
