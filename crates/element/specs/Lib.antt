pub mod Elements
pub mod Cells
pub mod Reflect
