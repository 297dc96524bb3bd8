pub mod State
pub mod Steps
pub mod Submitting
pub mod Running
pub mod Checking
pub mod Finishing
pub mod Calls
