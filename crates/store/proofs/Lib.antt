pub mod Parts
mod Sites
