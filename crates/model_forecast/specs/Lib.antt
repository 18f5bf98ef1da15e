pub mod Results
pub mod Totals
pub mod Mixed
pub mod Shares
pub mod Covered
pub mod Reckoned
pub mod Told
