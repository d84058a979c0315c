pub mod Closed
pub mod Closing
pub mod Listings
pub mod Params
pub mod Sequents
