pub mod Known
pub mod Gated
pub mod Packed
