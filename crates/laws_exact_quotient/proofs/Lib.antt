pub mod Lessened
pub mod Quotients
pub mod Recurred
pub mod Divided
