pub mod Opened
pub mod Running
pub mod Solves
pub mod Ended
pub mod Ran
