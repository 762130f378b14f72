pub mod Shifts
pub mod Piled
