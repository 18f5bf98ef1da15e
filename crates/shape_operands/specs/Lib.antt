pub mod Apart
pub mod Lent
pub mod Operand
pub mod Announces
