mod Sites
mod Working
