pub mod FlagLaws
pub mod FoundLaws
pub mod LeastLaws
pub mod LeastNames
pub mod NamesNoted
pub mod Parts
pub mod Pigeonhole
pub mod ServedParts
pub mod Stacked
mod StepSequents
pub mod Stepped
pub mod Walked
pub mod Wanted
