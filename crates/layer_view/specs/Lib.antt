pub mod Kept
pub mod Layers
