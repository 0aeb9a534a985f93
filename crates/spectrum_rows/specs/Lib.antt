pub mod Sheets
pub mod Wishes
