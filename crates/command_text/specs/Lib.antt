pub mod Reading
pub mod Parts
pub mod Lines
pub mod Given
pub mod Walks
pub mod Told
pub mod Words
pub mod Laws
