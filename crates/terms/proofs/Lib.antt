pub mod Told
pub mod StateTold
