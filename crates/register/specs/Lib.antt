pub mod Start
pub mod Worked
