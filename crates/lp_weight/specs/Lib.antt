pub mod Keys
pub mod Measures
pub mod Occurrences
pub mod Packed
pub mod Saturation
pub mod Spreads
pub mod Weights
