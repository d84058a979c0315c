pub mod TranslationLaws
pub mod Translations
