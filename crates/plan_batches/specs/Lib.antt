pub mod Awaited
pub mod Movers
pub mod Rows
pub mod Batches
