pub mod Put
pub mod Lines
pub mod Texts
pub mod Decimal
pub mod Value
pub mod Refused
