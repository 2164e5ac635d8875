pub mod Greatest
pub mod Picked
pub mod Kept
pub mod Segments
pub mod Stations
