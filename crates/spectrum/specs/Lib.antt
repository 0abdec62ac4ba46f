pub mod Spectrum
pub mod Counting
pub mod Promises
