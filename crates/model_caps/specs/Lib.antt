pub mod Cap
pub mod Order
pub mod Departments
