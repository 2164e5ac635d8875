pub mod Keys
pub mod Kinds
pub mod Values
pub mod Stages
pub mod Levels
pub mod Rules
pub mod Setup
