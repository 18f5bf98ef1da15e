pub mod Held
pub mod Done
pub mod Called
