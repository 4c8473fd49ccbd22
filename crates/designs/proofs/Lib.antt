pub mod DesignTables
pub mod Sizes
pub mod Readings
pub mod Checking
