pub mod Asks
pub mod Inputs
pub mod Judging
pub mod Judged
pub mod Counts
pub mod Answered
