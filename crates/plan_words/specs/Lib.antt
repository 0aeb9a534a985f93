pub mod CommandLine
pub mod AreWords
pub mod Laws
