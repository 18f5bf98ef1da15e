pub mod Puts
pub mod Before
pub mod Columns
pub mod Long
