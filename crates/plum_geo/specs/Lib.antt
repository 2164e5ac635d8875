pub mod Prediction
pub mod Corrected
pub mod Shown
pub mod Square
