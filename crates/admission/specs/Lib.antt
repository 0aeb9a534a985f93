pub mod FirstClear
pub mod Clear
pub mod Free
pub mod Told
pub mod Laws
