pub mod Rows
pub mod Stretches
pub mod Whole
pub mod Term
