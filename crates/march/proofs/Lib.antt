pub mod Space
pub mod RaySteps
pub mod Bodies
pub mod Numbers
pub mod Ends
