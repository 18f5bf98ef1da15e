pub mod Least
pub mod Bounds
pub mod Reach
pub mod Results
pub mod Rings
pub mod ShiftsTwice
pub mod Departments
