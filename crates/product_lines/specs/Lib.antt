pub mod Added
pub mod Fours
