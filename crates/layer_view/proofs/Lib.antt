pub mod MarkLaws
pub mod TopLaws
pub mod OverLaws
pub mod ChangeLaws
