-- The law over runs with any host.
pub mod Deeds
pub mod Results
pub mod Sites
pub mod Signed
pub mod Accepted
pub mod Names
pub mod Once
pub mod Histories
pub mod Digests
pub mod Tracking
pub mod Linked
pub mod Ordered
pub mod Written
pub mod Begun
pub mod Reads
pub mod Digested
pub mod Theorem
