pub mod Scan
pub mod Look
pub mod Starts
