pub mod Tens
pub mod Scanned
pub mod Significant
pub mod Exactly
pub mod Right
pub mod Examples
pub mod Promise
