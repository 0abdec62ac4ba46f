pub mod RowRule
pub mod Passes
