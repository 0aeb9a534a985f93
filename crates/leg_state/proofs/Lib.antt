pub mod EntryLemmas
pub mod ClashLemmas
