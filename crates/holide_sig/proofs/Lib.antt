pub mod Added
pub mod Placed
pub mod Pushed
pub mod SignatureNodes
pub mod ShortBodies
mod ShortSymbols
mod ShortPlaced
mod NamedDecls
mod LongNames
mod ApplyLaws
