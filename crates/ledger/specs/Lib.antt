pub mod Entries
pub mod Held
pub mod Calls
pub mod Named
pub mod Grown
