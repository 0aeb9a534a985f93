pub mod CountLemmas
pub mod MapLemmas
pub mod InRangeLaws
pub mod PlainLemmas
pub mod ReportLemmas
pub mod EmptyLaws
