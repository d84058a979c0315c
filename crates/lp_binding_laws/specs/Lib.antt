pub mod Arguments
pub mod Binding
pub mod Closed
pub mod Composition
pub mod LookUps
pub mod SubstitutionLaws
pub mod TreeEquality
