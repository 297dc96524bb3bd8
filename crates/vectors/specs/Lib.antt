pub mod Hashes
pub mod Questions
