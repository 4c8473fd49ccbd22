pub mod Lines
pub mod Zeros
pub mod Comparisons
