pub mod Refusals
pub mod Tables
pub mod Limits
pub mod Bounds
pub mod Sums
