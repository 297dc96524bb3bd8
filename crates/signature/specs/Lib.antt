pub mod Limits
pub mod Meaning
pub mod Refusals
pub mod Calls
