pub mod Before
pub mod Tells
pub mod Front
pub mod Traces
pub mod Shifted
pub mod Long
pub mod Promise
