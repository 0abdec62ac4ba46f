pub mod Boundary
pub mod Files
pub mod Runs
pub mod Fractions
