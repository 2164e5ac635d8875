pub mod Outputs
pub mod Biquads
pub mod Filters
