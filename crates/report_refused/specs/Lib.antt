pub mod Placed
pub mod Known
pub mod Said
pub mod Small
pub mod Front
pub mod Fits
pub mod Sentences
pub mod Long
