pub mod Modules
pub mod ModuleLaws
pub mod ShortIds
pub mod Places
pub mod Nodes
