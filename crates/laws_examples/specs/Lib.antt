pub mod Examples
pub mod Called
pub mod Instances
