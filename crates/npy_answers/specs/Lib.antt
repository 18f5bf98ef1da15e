pub mod Answer
pub mod Tested
pub mod Printed
