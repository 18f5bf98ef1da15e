pub mod Hornered
pub mod Rowed
pub mod Powered
pub mod Horners
pub mod Substituted
pub mod Substitutes
