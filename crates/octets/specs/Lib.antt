pub mod Numbers
pub mod Field
pub mod Reads
pub mod Puts
