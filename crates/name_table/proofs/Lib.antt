pub mod Packing
pub mod Placed
