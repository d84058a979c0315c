mod Checked
mod FastBounds
mod Handed
pub mod Stays
