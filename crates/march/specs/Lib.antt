pub mod Deep
pub mod View
pub mod Codes
pub mod Checks
pub mod March
pub mod Rays
pub mod Lent
