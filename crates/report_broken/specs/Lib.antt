pub mod Headers
pub mod Wrong
