pub mod Sized
pub mod Runs
pub mod Given
