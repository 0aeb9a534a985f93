pub mod KnownBytesLaws
pub mod FindLaws
pub mod ReadLaws
pub mod Untold
