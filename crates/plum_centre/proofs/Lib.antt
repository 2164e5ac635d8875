pub mod Fronts
pub mod Going
pub mod Turning
pub mod Staying
pub mod Opened
