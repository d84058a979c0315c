pub mod ClosedFormExamples
