pub mod Signals
pub mod Gaps
pub mod Runs
pub mod ByIndex
pub mod Bounds
pub mod Samples
pub mod Plain
pub mod Values
