pub mod Shape
pub mod Says
pub mod Keeps
pub mod State
pub mod Messages
pub mod Replies
pub mod Enters
pub mod Calls
