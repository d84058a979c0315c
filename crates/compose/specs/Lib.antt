pub mod Listed
pub mod Orders
pub mod Places
pub mod Pools
