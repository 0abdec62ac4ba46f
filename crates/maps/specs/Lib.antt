pub mod Maps
pub mod Raising
pub mod Promises
