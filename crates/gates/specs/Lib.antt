pub mod Given
pub mod Gate
pub mod Sole
pub mod Open
pub mod Small
