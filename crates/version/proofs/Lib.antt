pub mod SlotLaws
pub mod OrderLaws
pub mod LayoutLaws
mod Writing
mod OnePass
