pub mod Counted
pub mod Featured
pub mod Mapped
pub mod InRange
pub mod Reported
