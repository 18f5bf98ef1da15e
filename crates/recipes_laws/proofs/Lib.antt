pub mod RunExact
pub mod Exact
pub mod Demanded
