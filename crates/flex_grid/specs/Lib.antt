pub mod Padded
pub mod Makes
pub mod Laws
