pub mod Face
pub mod Apart
pub mod Recipes
pub mod Files
pub mod Promises
pub mod Once
