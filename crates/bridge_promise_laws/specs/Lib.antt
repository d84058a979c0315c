pub mod Consequent
pub mod OneDecoding
pub mod OneDue
pub mod OneRun
