pub mod Replied
pub mod Tellable
pub mod Words
