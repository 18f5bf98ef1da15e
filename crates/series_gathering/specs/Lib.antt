pub mod Reach
pub mod Gather
pub mod Kept
pub mod Whole
