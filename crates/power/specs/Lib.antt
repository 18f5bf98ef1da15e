pub mod Room
pub mod Turns
pub mod Kept
pub mod Ends
pub mod Entry
