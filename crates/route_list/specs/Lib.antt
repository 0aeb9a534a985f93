pub mod Distance
pub mod Ways
pub mod Fronts
pub mod Pools
