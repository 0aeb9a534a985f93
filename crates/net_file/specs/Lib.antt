pub mod Cut
pub mod Readings
pub mod Told
pub mod LineWords
pub mod Steps
pub mod Drafts
pub mod PrintWords
