-- The scan theorem: over any points, on the grid, of the executable rows, and its two instances.
pub mod Walks
pub mod GridScans
pub mod LookLaws
pub mod PartnerLaws
pub mod Passes
pub mod ScanLaws
pub mod Windows
pub mod Raster
pub mod Erosion
pub mod Dilation
