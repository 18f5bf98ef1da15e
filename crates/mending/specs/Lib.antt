pub mod Lines
pub mod Words
pub mod Headers
pub mod Reading
pub mod Changes
pub mod Ended
pub mod Promise
