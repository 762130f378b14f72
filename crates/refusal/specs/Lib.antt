pub mod Checks
pub mod Codes
pub mod Numbers
pub mod Ranges
pub mod Sentences
pub mod Texts
