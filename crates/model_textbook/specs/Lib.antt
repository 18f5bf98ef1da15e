pub mod Sum
pub mod Box
pub mod Textbook
