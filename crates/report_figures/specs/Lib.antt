pub mod Fill
pub mod Lines
pub mod Number
pub mod Long
