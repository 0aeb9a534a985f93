pub mod Parts
pub mod Listed
pub mod Asks
pub mod Clashes
