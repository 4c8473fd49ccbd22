pub mod Arms
pub mod Meetings
pub mod Targets
pub mod Wholes
