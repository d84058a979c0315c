pub mod WritingLaws
pub mod TrialParts
