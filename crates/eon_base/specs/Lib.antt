pub mod Names
pub mod Padded
pub mod Numbers
pub mod Aligned
pub mod Laws
