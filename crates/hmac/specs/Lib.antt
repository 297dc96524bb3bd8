pub mod Hmac
pub mod Differing
pub mod Pads
pub mod Keys
pub mod Calls
pub mod Published
pub mod Macs
