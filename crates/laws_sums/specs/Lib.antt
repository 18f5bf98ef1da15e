pub mod Own
pub mod Tails
pub mod Order
pub mod Rising
pub mod Leasts
pub mod Textbook
pub mod Wanted
