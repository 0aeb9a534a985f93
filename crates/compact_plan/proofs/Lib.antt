pub mod ListSteps
pub mod TopLaws
pub mod BlockLaws
pub mod SettleLaws
pub mod SweepSteps
pub mod TellLaws
