pub mod Abbreviations
pub mod Folded
pub mod MovedTrees
pub mod WrittenOnce
pub mod FoldedStands
