pub mod Scans
pub mod LastValues
pub mod Predictions
pub mod Showing
pub mod Corners
