pub mod Guarded
pub mod Placed
pub mod Recodings
pub mod Sums
pub mod Parallels
pub mod Ranges
pub mod Expressions
