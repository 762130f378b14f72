pub mod Checks
pub mod Codes
pub mod Made
pub mod Piled
