pub mod Product
pub mod Rows
pub mod Pairs
pub mod Bounds
pub mod Plane
