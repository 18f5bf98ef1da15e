pub mod Reads
pub mod Writing
pub mod Promise
