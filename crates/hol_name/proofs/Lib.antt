pub mod Demangling
pub mod Reading
pub mod Values
