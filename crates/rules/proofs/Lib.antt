pub mod Tools
pub mod Choices
pub mod Coded
pub mod Pairings
pub mod Recodings
pub mod Following
