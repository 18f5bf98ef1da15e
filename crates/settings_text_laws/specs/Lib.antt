pub mod File
pub mod Number
pub mod Chance
