pub mod Replayed
pub mod Followed
