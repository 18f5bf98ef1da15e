pub mod Plain
pub mod Bits
pub mod Unchanged
pub mod Twice
pub mod Passing
pub mod Front
pub mod Clean
