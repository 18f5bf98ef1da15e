pub mod Boxes
pub mod Kinds
pub mod Shifts
pub mod Powers
pub mod Totals
pub mod Parts
