mod Differences
mod Mapped
