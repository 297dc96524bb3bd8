pub mod Laws
mod Ending
mod Joining
mod Placed
mod Placing
mod ReplyPlaced
mod Replying
pub mod Tags
mod Writing
