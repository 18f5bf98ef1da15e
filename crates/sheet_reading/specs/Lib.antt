pub mod Headers
pub mod Reading
