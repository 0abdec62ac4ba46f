pub mod SeenLaws
pub mod Refusing
pub mod RaisingLaws
pub mod Answers
pub mod Promises
