pub mod Text
pub mod Reading
pub mod Pieces
pub mod Tuples
pub mod Items
pub mod Headers
pub mod Examples
