pub mod GridFacts
pub mod BandFacts
