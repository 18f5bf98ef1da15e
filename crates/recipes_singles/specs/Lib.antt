pub mod Change
pub mod Power
pub mod Exponential
