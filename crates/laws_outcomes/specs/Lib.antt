pub mod Outcome
pub mod Entries
pub mod Recipes
pub mod Settings
pub mod Exponential
pub mod Numbers
