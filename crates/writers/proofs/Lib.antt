pub mod Fills
pub mod Laws
pub mod Entries
pub mod Sequences
pub mod Counts
