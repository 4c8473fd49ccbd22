pub mod Truths
pub mod Telling
pub mod Grids
pub mod Passes
pub mod Counts
pub mod Rounds
pub mod Runs
pub mod Ranges
