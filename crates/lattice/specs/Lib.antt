pub mod Space
pub mod Rows
