pub mod AmountLaws
pub mod Amounts
pub mod Binding
pub mod Kinds
