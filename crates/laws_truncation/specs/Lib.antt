pub mod Agree
pub mod Caps
pub mod Rings
