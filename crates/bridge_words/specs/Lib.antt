pub mod Asked
pub mod Commands
pub mod Matches
pub mod Readable
pub mod Refused
