pub mod Held
pub mod Long
