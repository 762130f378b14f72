pub mod Ways
pub mod Distance
pub mod Toward
