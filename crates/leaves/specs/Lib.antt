pub mod Codes
pub mod Ball
pub mod Made
pub mod Surface
pub mod Sheet
