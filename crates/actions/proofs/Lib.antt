pub mod Transitions
pub mod Kths
