pub mod LevelCounts
pub mod TableSums
pub mod BlankLaws
pub mod Finding
pub mod Refusing
pub mod Answers
pub mod Promises
