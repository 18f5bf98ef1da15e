pub mod Example
pub mod Output
pub mod Promise
pub mod Front
