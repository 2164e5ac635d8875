pub mod Stage
pub mod Filter
