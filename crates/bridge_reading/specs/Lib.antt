pub mod Halts
pub mod StopAnswers
pub mod Stops
