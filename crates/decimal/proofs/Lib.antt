pub mod NumberLaws
pub mod LoopLaws
pub mod NumberExamples
