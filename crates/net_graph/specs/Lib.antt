pub mod Words
pub mod Graph
pub mod Rows
pub mod Walks
pub mod Stands
