pub mod Body
pub mod Answer
pub mod Codes
