pub mod Results
pub mod Least
pub mod Placing
pub mod Reuse
