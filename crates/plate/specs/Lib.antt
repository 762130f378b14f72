pub mod Plate
