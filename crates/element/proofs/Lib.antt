pub mod ElementLaws
pub mod Reflection
pub mod Meaning
pub mod Accepted
pub mod Seven
