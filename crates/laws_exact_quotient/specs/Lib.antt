pub mod Inverses
pub mod Earlier
pub mod Lasts
pub mod Lessened
pub mod Pasts
pub mod Recurred
pub mod Divided
pub mod Quotients
