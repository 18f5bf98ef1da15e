pub mod Poly
pub mod Series
pub mod Turns
pub mod Start
pub mod Comparison
pub mod Chains
pub mod Heads
pub mod Examples
