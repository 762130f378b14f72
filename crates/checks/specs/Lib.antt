pub mod Worked
pub mod Empty
pub mod Chained
pub mod Piles
