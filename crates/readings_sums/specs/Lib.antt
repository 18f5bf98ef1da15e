pub mod Sums
pub mod First
