pub mod Called
pub mod Done
