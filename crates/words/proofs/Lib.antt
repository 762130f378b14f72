pub mod Chains
pub mod Ranges
pub mod Back
pub mod Written
