pub mod Fields
pub mod Told
pub mod Moves
pub mod Plans
pub mod Services
pub mod ServiceTold
