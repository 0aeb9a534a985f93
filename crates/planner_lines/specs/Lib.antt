pub mod Pacing
pub mod Answering
pub mod AnsweringLaws
pub mod Deciding
pub mod Making
pub mod Settling
