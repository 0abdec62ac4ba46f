pub mod Printing
pub mod Steps
pub mod Meaning
