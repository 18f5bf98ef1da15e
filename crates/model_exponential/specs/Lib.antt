pub mod Exact
pub mod Head
pub mod Constant
pub mod Step
pub mod Promises
