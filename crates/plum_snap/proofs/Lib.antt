mod Adding
pub mod Fronts
mod Moves
mod Growing
mod Filling
mod Cells
mod Marking
mod Raising
