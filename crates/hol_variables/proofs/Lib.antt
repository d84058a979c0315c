mod Unions
mod Names
mod Gathered
mod Owned
mod Measured
mod Found
mod Walked
mod Taken
