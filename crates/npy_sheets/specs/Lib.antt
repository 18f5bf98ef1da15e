pub mod Shown
pub mod Arrays
pub mod Prints
pub mod Front
pub mod Back
