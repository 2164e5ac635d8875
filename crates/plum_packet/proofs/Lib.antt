pub mod Pieces
pub mod Captures
pub mod Spelling
mod Stopping
pub mod Fields
pub mod FirstFault
pub mod Samples
pub mod Cuts
pub mod Writing
pub mod OneBody
pub mod Taking
pub mod Counted
pub mod OneWay
pub mod Telling
pub mod Fronts
