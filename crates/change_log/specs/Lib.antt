pub mod Keeping
pub mod Holding
pub mod HoldingLaws
pub mod Crash
pub mod Opening
