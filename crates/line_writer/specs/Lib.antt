pub mod Sent
pub mod Words
