pub mod InputLaws
pub mod PlainLaws
pub mod SequentLaws
