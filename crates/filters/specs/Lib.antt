pub mod Filters
pub mod Plans
pub mod Back
pub mod StarredFilters
pub mod PaddingIgnored
pub mod Chains
