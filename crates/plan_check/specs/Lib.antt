pub mod Told
pub mod Judged
pub mod Numbered
pub mod Lists
pub mod VerdictTold
