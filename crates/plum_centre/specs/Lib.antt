pub mod Feeder
pub mod Turns
pub mod Rounds
pub mod Centre
