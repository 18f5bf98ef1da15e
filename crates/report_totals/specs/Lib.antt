pub mod Forecast
pub mod Powers
pub mod Chained
pub mod Amounts
pub mod Mixings
pub mod Reckonings
pub mod Long
