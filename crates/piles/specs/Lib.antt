pub mod Leaves
pub mod Layers
pub mod Pile
pub mod Stands
