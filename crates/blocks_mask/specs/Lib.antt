pub mod Masks
pub mod Cleans
