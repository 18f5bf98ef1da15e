pub mod Opening
pub mod Heads
