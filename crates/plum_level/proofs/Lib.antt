pub mod Counting
pub mod Minutes
pub mod Samples
pub mod Searching
pub mod Filling
pub mod Renewing
pub mod Windows
pub mod OneLevel
