pub mod Counts
pub mod Plain
pub mod Openings
pub mod Views
pub mod Reports
pub mod Promises
pub mod Requests
