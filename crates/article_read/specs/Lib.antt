pub mod Judged
pub mod OpenLines
pub mod Reading
