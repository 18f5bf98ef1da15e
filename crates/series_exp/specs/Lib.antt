pub mod Room
pub mod NextRow
pub mod Stacked
