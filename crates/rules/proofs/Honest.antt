-- The law over runs with our host.
pub mod Messages
pub mod Stored
pub mod Taken
pub mod Good
pub mod Start
pub mod Begin
pub mod TakeSubmit
pub mod Leads
pub mod TakeCommit
pub mod Replies
pub mod Passes
pub mod Finish
pub mod Stops
pub mod Steps
pub mod Theorem
