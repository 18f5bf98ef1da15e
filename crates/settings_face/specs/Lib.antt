pub mod Face
pub mod Chance
pub mod Between
