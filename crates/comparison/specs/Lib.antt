pub mod Comparisons
pub mod Wraps
