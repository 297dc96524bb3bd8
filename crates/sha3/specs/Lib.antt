pub mod Keccak
pub mod Published
pub mod Sha3
pub mod Stream
pub mod Lanes
