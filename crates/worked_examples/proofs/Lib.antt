pub mod Meanings
pub mod Runs
pub mod Checks
