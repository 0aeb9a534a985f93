pub mod Asked
pub mod HeldBytes
pub mod HeldDisk
pub mod Track
