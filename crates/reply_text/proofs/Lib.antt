pub mod WordLaws
pub mod ListingLaws
