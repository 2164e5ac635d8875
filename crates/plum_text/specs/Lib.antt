pub mod Fields
pub mod Lines
pub mod Spelled
pub mod Texts
pub mod Laws
