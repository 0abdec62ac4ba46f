pub mod Header
pub mod Pbm
pub mod Steps
pub mod RoundTrips
