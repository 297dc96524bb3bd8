pub mod Blocks
pub mod Tables
