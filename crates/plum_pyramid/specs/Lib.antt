pub mod Pyramid
pub mod Maxima
pub mod Cells
