pub mod Called
pub mod Instances
