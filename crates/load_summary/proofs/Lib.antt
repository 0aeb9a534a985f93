pub mod TallyLaws
pub mod SummaryLaws
