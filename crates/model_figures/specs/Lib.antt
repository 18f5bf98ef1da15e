pub mod Cells
pub mod Inputs
pub mod Figures
