pub mod Actions
pub mod Rules
pub mod Derived
