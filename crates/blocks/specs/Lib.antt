pub mod Rows
pub mod ByRow
pub mod Merge
pub mod Same
pub mod Line
pub mod Combine
pub mod Two
pub mod Entry
