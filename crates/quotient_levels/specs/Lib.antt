pub mod Room
pub mod Grows
pub mod Level
pub mod Taken
pub mod Gather
pub mod Line
pub mod Levels
