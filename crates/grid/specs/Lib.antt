-- What a reader must believe, in this order; the laws are in proofs/.
pub mod Points
pub mod Sets
pub mod Levels
pub mod Figures
pub mod Crops
pub mod Starred
pub mod Chains
pub mod Sizes
