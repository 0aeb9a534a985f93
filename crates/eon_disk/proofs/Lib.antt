pub mod HeldLaws
pub mod RangeLaws
pub mod DiskTells
pub mod Untold
