pub mod Distinct
pub mod Pushes
pub mod Members
pub mod Coded
pub mod Areas
pub mod ByCode
pub mod ByNumber
