pub mod Lines
pub mod Answering
pub mod Runs
pub mod Session
pub mod Ends
