pub mod Arrays
pub mod Walks
pub mod Rising
pub mod Documents
pub mod Cascades
pub mod Walked
