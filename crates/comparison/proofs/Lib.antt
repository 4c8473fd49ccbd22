pub mod Verdicts
pub mod Histories
pub mod InRange
