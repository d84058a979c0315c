pub mod Converted
pub mod Spines
