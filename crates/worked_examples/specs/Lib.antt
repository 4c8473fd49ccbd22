pub mod Meanings
pub mod Claims
pub mod Examples
