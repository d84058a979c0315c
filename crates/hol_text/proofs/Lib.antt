pub mod Lists
pub mod NameTexts
pub mod Operators
