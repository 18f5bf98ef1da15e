pub mod Traced
pub mod Counted
pub mod Laws
pub mod Ends
pub mod Lowered
pub mod Furthest
pub mod Small
