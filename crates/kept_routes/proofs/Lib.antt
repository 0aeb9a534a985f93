pub mod KeptLaws
pub mod BehindLaws
