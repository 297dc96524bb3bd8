pub mod Compression
pub mod Published
pub mod Sha256
pub mod Stream
pub mod Window
pub mod Words
pub mod Padded
