pub mod WordLaws
pub mod AnswerLaws
pub mod FileAnswers
pub mod RunAnswers
pub mod Unique
pub mod FractionAnswers
