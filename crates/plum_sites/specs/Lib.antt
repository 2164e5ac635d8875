pub mod Fields
pub mod Records
pub mod Files
pub mod Stations
pub mod Targets
pub mod Laws
