pub mod Calls
pub mod Gaining
pub mod InMemory
pub mod Opened
pub mod Outside
pub mod Real
