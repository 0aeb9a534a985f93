pub mod RowEvents
