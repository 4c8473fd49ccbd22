pub mod Chains
pub mod Sounds
