pub mod Classes
pub mod Tenths
pub mod Laws
