pub mod Stripes
pub mod Scale
