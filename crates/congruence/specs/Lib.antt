pub mod Congruences
pub mod Expressions
