pub mod TakesLaws
pub mod WordLaws
