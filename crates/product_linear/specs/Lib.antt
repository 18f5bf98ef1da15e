pub mod Rows
pub mod Raised
pub mod Lined
pub mod Raise
