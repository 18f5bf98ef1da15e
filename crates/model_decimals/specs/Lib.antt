pub mod Results
pub mod Value
pub mod Text
pub mod Typed
