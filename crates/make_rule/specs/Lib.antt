pub mod Told
pub mod Refits
