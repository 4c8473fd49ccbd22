pub mod Faults
pub mod EqualSheets
pub mod Listings
pub mod DifferentSheets
