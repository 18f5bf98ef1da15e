pub mod Line
pub mod Read
pub mod Kept
pub mod Least
