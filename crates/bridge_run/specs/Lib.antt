pub mod Blocks
pub mod CommandLine
