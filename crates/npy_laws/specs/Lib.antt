pub mod Spelt
pub mod Forms
pub mod Back
pub mod Written
pub mod Same
pub mod Front
pub mod Widths
