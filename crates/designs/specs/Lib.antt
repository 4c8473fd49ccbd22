pub mod Forms
pub mod Tables
pub mod Shapes
pub mod Operations
pub mod Refusals
pub mod Nodes
pub mod Checks
