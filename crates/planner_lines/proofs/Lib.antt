pub mod GivenLaws
pub mod DecideLaws
pub mod MakeLaws
pub mod SettleLaws
