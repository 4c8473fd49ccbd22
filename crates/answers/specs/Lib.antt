pub mod Calms
pub mod Views
