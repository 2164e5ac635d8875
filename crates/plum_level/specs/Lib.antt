pub mod Level
pub mod Tallies
pub mod Window
pub mod Thresholds
