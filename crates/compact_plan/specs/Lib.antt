pub mod Blocks
pub mod Tops
pub mod Sweeps
pub mod Told
