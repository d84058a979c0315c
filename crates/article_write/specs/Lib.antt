pub mod Fitting
pub mod Gathering
pub mod Pairs
pub mod Plans
