pub mod AnswerTexts
pub mod Beginning
pub mod Delivered
pub mod Performed
