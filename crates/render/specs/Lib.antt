pub mod Codes
pub mod Models
pub mod Render
pub mod Laws
pub mod Steps
pub mod Buffers
