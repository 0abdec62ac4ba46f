pub mod RefusedLaws
pub mod CrossLaws
pub mod PageLaws
pub mod InputLaws
pub mod Meaning
pub mod PrintedExamples
