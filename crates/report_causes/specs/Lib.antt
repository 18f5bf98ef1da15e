pub mod Announced
pub mod Counts
pub mod Formed
