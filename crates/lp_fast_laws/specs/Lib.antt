pub mod FastModules
pub mod FastPrices
pub mod FastStatements
pub mod FastTyping
