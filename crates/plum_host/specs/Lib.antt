pub mod Told
pub mod Frames
pub mod Faults
pub mod Counting
pub mod Loading
pub mod Schedule
pub mod Memory
pub mod Paths
