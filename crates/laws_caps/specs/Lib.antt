pub mod Capped
pub mod Sums
pub mod Reads
pub mod Clean
pub mod Quotients
pub mod Recurred
