pub mod DeclTexts
pub mod Lines
pub mod LineLaws
pub mod Nodes
pub mod Paths
pub mod Shallow
pub mod Writing
pub mod Open
