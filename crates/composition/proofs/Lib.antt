pub mod Sizes
pub mod Synchronised
pub mod Pairs
