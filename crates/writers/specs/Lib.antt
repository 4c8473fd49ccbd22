pub mod Fills
pub mod Writes
