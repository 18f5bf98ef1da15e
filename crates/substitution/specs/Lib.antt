pub mod Room
pub mod Powers
pub mod Sizes
pub mod Horner
pub mod Entry
pub mod Placed
