pub mod KeptFirst
