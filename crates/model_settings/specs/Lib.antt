pub mod Store
pub mod Words
pub mod Calls
pub mod Promises
