pub mod Faults
pub mod Reading
pub mod Writing
pub mod WholeFile
pub mod Held
pub mod Memory
pub mod Sure
