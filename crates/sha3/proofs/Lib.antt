pub mod Mixed
pub mod Padding
