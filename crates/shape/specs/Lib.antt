pub mod Limits
pub mod Announced
pub mod Under
pub mod Cut
pub mod Keeps
