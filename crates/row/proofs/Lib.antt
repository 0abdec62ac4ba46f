pub mod Pass
pub mod Columns
pub mod Least
pub mod Own
pub mod RuleLaws
pub mod Lowered
pub mod Whole
