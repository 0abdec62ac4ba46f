pub mod Sheets
pub mod SamePixels
pub mod Means
