pub mod Opened
pub mod Proving
pub mod Runs
pub mod Invariants
