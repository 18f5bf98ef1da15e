pub mod Room
pub mod Parts
pub mod Drop
pub mod Shift
pub mod Taken
