pub mod StateLists
pub mod Listings
pub mod Rows
pub mod Ahead
