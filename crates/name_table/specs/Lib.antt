pub mod Spellings
pub mod SpellingViews
pub mod Places
pub mod Positions
pub mod NameLaws
