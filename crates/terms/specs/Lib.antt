pub mod Terms
pub mod StateTerms
