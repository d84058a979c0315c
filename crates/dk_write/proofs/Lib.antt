pub mod GainedLaws
mod NodeLaws
pub mod FrameTexts
pub mod DeclarationTexts
mod Told
mod ShortPlaces
