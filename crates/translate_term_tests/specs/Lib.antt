pub mod Inputs
pub mod Plain
pub mod Sequents
