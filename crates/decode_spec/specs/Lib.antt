pub mod ClosedFormTest
pub mod ClosedText
pub mod Decode
pub mod DecodeStatements
pub mod Demangled
pub mod Opened
pub mod Options
