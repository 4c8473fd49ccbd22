pub mod Layouts
pub mod Refusals
pub mod Reads
