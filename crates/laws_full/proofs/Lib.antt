pub mod Lacking
pub mod WholeLaws
pub mod SameLaws
pub mod Bounds
pub mod Fits
pub mod Polynomials
pub mod Described
