pub mod SameLaws
pub mod StepLaws
pub mod CountedLaws
pub mod BarLaws
pub mod FitLaws
pub mod ClearLaws
pub mod LowestLaws
