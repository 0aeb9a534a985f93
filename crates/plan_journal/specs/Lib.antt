pub mod Faults
pub mod Moments
pub mod Made
pub mod Appended
pub mod Walked
pub mod Opened
pub mod Prepared
